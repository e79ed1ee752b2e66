use Rattle.std.proofs.Common.{◌≡◌, ◌||◌, eqb, true, refl}
use Rattle.std.specs.Char.{is_digit}
use Rattle.ini_text.specs.Grammar.CharacterKinds.{plus}
use Rattle.ini_text.specs.Grammar.EscapeSequences.{first_digit}
use Rattle.ini_text.proofs.GrammarLemmas.SpellingLemmas.{spelled_value, first_plus, first_other}
use Rattle.ini_text.proofs.parser.string.spelled.Goals as goal
use Rattle.ini_text.proofs.parser.string.spelled.Goals.{then-a-eq43, else-a-eq43+in_ok-first}

pub returns : goal.returns
returns c =
    let first : ((is_digit c.args.a 16 || eqb c.args.a plus) ≡ true)
    × (c.if-a-eq43.first ≡ first_digit c.args.a) =
    elim c.if-a-eq43.branch [
      | then-a-eq43 w ↦ first_plus c.args.a c.if-a-eq43.first w.if-a-eq43.true w.first-is
      | else-a-eq43+in_ok-first w ↦
          first_other c.args.a c.if-a-eq43.first w.in_ok-first.first w.if-a-eq43.false
          w.in_ok-first.ensures.value w.first-is
    ] in
    spelled_value c.args.a c.args.b c.args.c c.args.d c.if-a-eq43.first c.in_ok-to_digit.field-0
    c.in_ok-to_digit-2.field-0 c.in_ok-value.field-0 _ c.from_u32.result
    first.0 first.1 c.in_ok-to_digit.ensures.value c.in_ok-to_digit-2.ensures.value
    c.in_ok-value.ensures.value refl c.from_u32.ensures.value
