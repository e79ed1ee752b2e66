use Rattle.std.proofs.Common.{◌≡◌, ◌∙◌, ◌<◌, ◌+◌, ap, arith, length, take}
use Rattle.ini_text.specs.Grammar.CharacterKinds.{line_feed}
use Rattle.ini_text.specs.Grammar.Positions.{last_or}
use Rattle.ini_edit.specs.Sources.{sections_text}
use Rattle.ini_edit.proofs.SourceFindLemmas.{last_of_section}
use Rattle.ini_edit.proofs.source.Source.last_before.Goals as goal

pub returns-in-Some : goal.returns-in-Some
returns-in-Some c =
    let ss = c.self.inside.sections.items in
    let before = c.in-Some.before in
    let within : before < length ss = omega (arith, ap (λ v. length v.sections) c.self.view_is) in
    let next : before + 1 ≡ c.args.section = omega arith in
    c.last_char.ensures ∙ last_of_section ss c.self.invariant before _ within c.index.ensures
    ∙ ap (λ n. last_or line_feed (sections_text (take n ss))) next
    ∙ ap (λ v. last_or line_feed (sections_text (take c.args.section v.sections))) c.self.view_is
