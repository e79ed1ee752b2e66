use Rattle.std.proofs.Common.{ap, chars, ◌∙◌, ◌++◌, ◌∷◌, []}
use Rattle.ini_text.specs.Inside.Scans.{trimmed_at}
use Rattle.ini_text.proofs.StringLemmas.VisibleEndLemmas.{trimmed_at-space}
use Rattle.ini_text.proofs.text.without_space.Goals as goal

pub returns-in-Some-default-eq32 : goal.returns-in-Some-default-eq32
returns-in-Some-default-eq32 c = λ both.
    ap (trimmed_at both) (c.in-Some-default-eq32.ensures
    ∙ ap (λ x. chars c.in-Some-default-eq32.front.now ++ x ∷ []) c.in-Some-default-eq32.field-0-1-test)
    ∙ trimmed_at-space both (chars c.in-Some-default-eq32.front.now)
