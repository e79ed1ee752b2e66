-- A new pair of the code, as a style has it written, is one that a new section may take.
use Rattle.std.proofs.Common.{refl, subst, sym}
use Rattle.ini_text.specs.Grammar.Places.{TrailingLines}
use Rattle.ini_text.specs.Laws.Plain.{IsPlainKey}
use Rattle.ini_text.specs.declared.option.ParseOption.{ParseOption}
use Rattle.ini_text.specs.declared.write.policy.EscapePolicy.{EscapePolicy}
use Rattle.ini.specs.Texts.{Text}
use Rattle.ini_edit.specs.Inside.SourceEnds.{IsNewPair, MakesPairs, made_pair}
use Rattle.ini_edit.specs.Inside.Spans.{IsPair}
use Rattle.ini_edit.specs.SourceWritten.{Style}
use Rattle.ini_edit.specs.Sources.{PairPiece}
use Rattle.ini_edit.specs.declared.source.written.NewPair.{NewPair}
use Rattle.ini_edit.proofs.NewPairLemmas.{IsPlainStyle, IsReadKey, IsSourceFor, new_pair_is}

pub new_pair_makes : {o : ParseOption} {policy : EscapePolicy} {key value source : Text} {style : Style}
    (pair : NewPair) → IsPlainKey o policy key → IsReadKey o policy key → IsPlainStyle o style
    → IsSourceFor o source value → IsNewPair policy style key value source pair
    → MakesPairs o (made_pair o pair)
new_pair_makes {o} pair plain read_back is given new = record {
  trailing = λ indented lines gap. refl;
  after = λ indented lines gap. refl;
  pair = λ indented lines gap {c} {r} start.
      subst (λ (p : PairPiece). TrailingLines o p.stretches.trailing_lines r
      → IsPair o c p.stretches p.key p.value r) (sym (new o indented lines gap))
      (new_pair_is plain read_back is given indented lines gap start);
}
