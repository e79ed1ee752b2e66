use Rattle.std.proofs.Common.{◌∙◌, subst}
use Rattle.ini_edit.specs.Inside.SourceLayouts.{KeepsBy}
use Rattle.ini_edit.specs.LaidOut.{LosesBy}
use Rattle.ini_edit.proofs.LaidOutLemmas.{kept_again, kept_document, kept_laid, kept_same, left_again}
use Rattle.ini_edit.proofs.LaidOutLemmas.{left_document, left_laid, left_same}
use Rattle.ini_edit.proofs.WholeTextLemmas.{read_in_pieces}
use Rattle.ini_edit.proofs.source.layout.lay_out.Goals as goal

pub returns-in-Some-clause-laid : goal.returns-in-Some-clause-laid
returns-in-Some-clause-laid c =
    let read = c.in_ok-source.ensures in
    left_laid (read_in_pieces read.option read.text read.placed read.document)
    (subst (λ o. LosesBy o c.args.layout.now c.in_ok-source.source c.in-Some.lost) read.option
    (rw c.in-Some.is at c.in_ok-loss.ensures.found))
    (c.in_ok-text-in-Some.ensures.text ∙ read.text)

pub returns-in-Some-clause-same : goal.returns-in-Some-clause-same
returns-in-Some-clause-same c =
    let read = c.in_ok-source.ensures in
    left_same (read_in_pieces read.option read.text read.placed read.document)
    (subst (λ o. LosesBy o c.args.layout.now c.in_ok-source.source c.in-Some.lost) read.option
    (rw c.in-Some.is at c.in_ok-loss.ensures.found))
    (c.in_ok-text-in-Some.ensures.text ∙ read.text)

pub returns-in-Some-clause-document : goal.returns-in-Some-clause-document
returns-in-Some-clause-document c =
    let read = c.in_ok-source.ensures in
    left_document (read_in_pieces read.option read.text read.placed read.document)
    (subst (λ o. LosesBy o c.args.layout.now c.in_ok-source.source c.in-Some.lost) read.option
    (rw c.in-Some.is at c.in_ok-loss.ensures.found))
    (c.in_ok-text-in-Some.ensures.text ∙ read.text)

pub returns-in-Some-clause-again : goal.returns-in-Some-clause-again
returns-in-Some-clause-again c =
    let read = c.in_ok-source.ensures in
    left_again (read_in_pieces read.option read.text read.placed read.document)
    (subst (λ o. LosesBy o c.args.layout.now c.in_ok-source.source c.in-Some.lost) read.option
    (rw c.in-Some.is at c.in_ok-loss.ensures.found))
    (c.in_ok-text-in-Some.ensures.text ∙ read.text)

pub returns-clause-laid : goal.returns-clause-laid
returns-clause-laid c =
    let read = c.in_ok-source.ensures in
    kept_laid (read_in_pieces read.option read.text read.placed read.document)
    (subst (λ o. KeepsBy o c.args.layout.now c.in_ok-source.source) read.option
    (rw c.in-None.is at c.in_ok-loss.ensures.found))
    c.in_ok-laid.ensures.text

pub returns-clause-same : goal.returns-clause-same
returns-clause-same c =
    let read = c.in_ok-source.ensures in
    kept_same (read_in_pieces read.option read.text read.placed read.document)
    (subst (λ o. KeepsBy o c.args.layout.now c.in_ok-source.source) read.option
    (rw c.in-None.is at c.in_ok-loss.ensures.found))
    c.in_ok-laid.ensures.text

pub returns-clause-document : goal.returns-clause-document
returns-clause-document c =
    let read = c.in_ok-source.ensures in
    kept_document (read_in_pieces read.option read.text read.placed read.document)
    (subst (λ o. KeepsBy o c.args.layout.now c.in_ok-source.source) read.option
    (rw c.in-None.is at c.in_ok-loss.ensures.found))
    c.in_ok-laid.ensures.text

pub returns-clause-again : goal.returns-clause-again
returns-clause-again c =
    let read = c.in_ok-source.ensures in
    kept_again (read_in_pieces read.option read.text read.placed read.document)
    (subst (λ o. KeepsBy o c.args.layout.now c.in_ok-source.source) read.option
    (rw c.in-None.is at c.in_ok-loss.ensures.found))
    c.in_ok-laid.ensures.text
