use Rattle.std.proofs.Common.{◌∙◌, ap, chars, drop, not, sym}
use Rattle.ini_text.specs.Grammar.CharacterKinds.{is_line_feed}
use Rattle.ini_text.specs.Inside.Scans.{skipped}
use Rattle.ini_text.proofs.PlaceLemmas.TailLemmas.{feeds_all, feeds_some}
use Rattle.ini_text.proofs.parser.value.gives_more.Goals as goal

pub returns-in_default : goal.returns-in_default
returns-in_default c =
    sym (ap not (feeds_all (chars (drop c.args.len c.args.text.now))
    (ap (λ b. skipped is_line_feed (chars b)) (sym c.range_from.ensures.value)
    ∙ sym c.skip.ensures ∙ c.in_default.ensures.characters)))

pub returns-in-Some : goal.returns-in-Some
returns-in-Some c =
    sym (ap not (feeds_some (chars (drop c.args.len c.args.text.now))
    (ap (λ b. skipped is_line_feed (chars b)) (sym c.range_from.ensures.value)
    ∙ sym c.skip.ensures ∙ c.in-Some.ensures.characters)))
