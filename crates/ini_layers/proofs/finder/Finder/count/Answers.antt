use Rattle.std.proofs.Common.{◌∙◌, ◌∷◌, ap, chars, sym}
use Rattle.ini.specs.Texts.{str_name}
use Rattle.ini_layers.proofs.FindingLemmas.{no_pair, no_section}
use Rattle.ini_layers.proofs.finder.Finder.count.Goals as goal

pub returns-in_default : goal.returns-in_default
returns-in_default c =
    no_section (str_name c.args.name) (chars c.args.key.now) c.args.self.now.document
    (sym c.section_all-sections.ensures.sections ∙ c.in_default.ensures.steps.0)

pub returns-in_default-next-2 : goal.returns-in_default-next-2
returns-in_default-next-2 c =
    no_pair (str_name c.args.name) (chars c.args.key.now) c.args.self.now.document c.in-Some.section.now
    (sym c.section_all-sections.ensures.sections ∙ c.in-Some.ensures.steps
    ∙ ap (λ l. c.in-Some.section.now ∷ l) c.in-None.ensures.steps.0)
    (sym c.get_all-values.ensures.values ∙ c.in_default-next-2.ensures.steps.0)
