use Rattle.std.proofs.Common.{◌∙◌, chars, sym}
use Rattle.std.proofs.lemmas.Bool.{false≢true}
use Rattle.std.proofs.lemmas.Result.{on_ok_weaker}
use Rattle.ini.specs.Texts.{str_name}
use Rattle.ini_edit.proofs.SetDocumentLemmas.{set_as_added}
use Rattle.ini_layers.proofs.FindingLemmas.{from_ok, only-set, only-set-document}
use Rattle.ini_layers.proofs.finder.sets_found.Goals.{in-Err, in-Ok}
use Rattle.ini_layers.proofs.finder.sets_found.Goals as goal

pub returns-in-Nothing-clause-document : goal.returns-in-Nothing-clause-document
returns-in-Nothing-clause-document c = λ is.
    from_ok c.add.result (sym c.is_ok.ensures.value ∙ is)
    (on_ok_weaker c.add.result (λ added. added.document
    ∙ set_as_added (str_name c.args.name) (chars c.args.key.now) (chars c.args.value.now)
    c.args.source.now.sections (rw c.in-Nothing.is at c.requires.found)) c.add.ensures.added)

pub returns-after-set_at-clause-set : goal.returns-after-set_at-clause-set
returns-after-set_at-clause-set c = λ set.
    elim c.match-set_at.branch [
      | in-Ok w ↦ only-set c.args.write.now (rw c.in-Only.is at c.requires.found)
          (rw (sym w.result-is ∙ set) at w.in-Ok.ensures.set)
      | in-Err w ↦ absurd (false≢true (sym w.result-is ∙ set))
    ]

pub returns-after-set_at-clause-document : goal.returns-after-set_at-clause-document
returns-after-set_at-clause-document c = λ set.
    elim c.match-set_at.branch [
      | in-Ok w ↦ only-set-document c.args.write.now (rw c.in-Only.is at c.requires.found)
          (rw (sym w.result-is ∙ set) at w.in-Ok.ensures.set)
      | in-Err w ↦ absurd (false≢true (sym w.result-is ∙ set))
    ]
