use Rattle.std.proofs.Common.{◌∙◌, ap, sym}
use Rattle.std.proofs.lemmas.Str.{chars-nil}
use Rattle.ini_edit.specs.Inside.PairForms.{piece_of}
use Rattle.ini_edit.proofs.source.pair.SourcePair.space_after.Goals as goal

pub returns-in-Lent : goal.returns-in-Lent
returns-in-Lent c =
    chars-nil ∙ ap (λ form. (piece_of form).stretches.space_after) (sym c.in-Lent.is)
    ∙ ap (λ p. p.stretches.space_after) c.self.view_is
