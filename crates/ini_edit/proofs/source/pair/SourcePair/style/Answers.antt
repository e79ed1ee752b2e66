use Rattle.std.proofs.Common.{◌≡◌, ◌∙◌, ap, chars, [], if◌then◌else◌, sym}
use Rattle.std.proofs.lemmas.Bool.{cond-false, cond-true}
use Rattle.std.proofs.lemmas.Str.{chars-nil}
use Rattle.std.specs.Option.{unwrap_or}
use Rattle.ini_text.specs.Grammar.CharacterKinds.{equals}
use Rattle.ini_text.specs.Parsing.Fronts.{front_of}
use Rattle.ini_edit.specs.SourceLines.{after_blanks, blanks_at_end}
use Rattle.ini_edit.proofs.StyleLemmas.{styled_same}
use Rattle.ini_edit.proofs.source.pair.SourcePair.style.Goals as goal
use Rattle.ini_edit.proofs.source.pair.SourcePair.style.Goals.{else-read, then-read}

pub returns : goal.returns
returns c =
    let key = c.args.self.now.stretches.key in
    let kept = c.args.read.enabled_preserve_key_leading_whitespace in
    let blanks : chars c.split_blanks.result.0.now ≡ front_of key (after_blanks key) =
    c.split_blanks.ensures.blanks ∙ ap (λ t. front_of t (after_blanks t)) c.raw_key.ensures in
    let indent : chars c.if-read.result.now ≡ (if kept then [] else front_of key (after_blanks key)) =
    elim c.if-read.branch [
      | then-read w ↦ ap (λ r. chars r.now) w.result-is ∙ chars-nil ∙ sym (cond-true kept _ _ w.if-read.true)
      | else-read w ↦ ap (λ r. chars r.now) w.result-is ∙ blanks ∙ sym (cond-false kept _ _ w.if-read.false)
    ] in
    styled_same indent (c.blanks_at_end.ensures ∙ ap blanks_at_end c.raw_key-2.ensures)
    (c.unwrap_or.ensures ∙ ap (λ m. unwrap_or m equals) c.separator.ensures)
    (c.split_blanks-2.ensures.blanks ∙ ap (λ t. front_of t (after_blanks t)) c.space_before.ensures)
