use Rattle.std.proofs.Common.{chars}
use Rattle.std.proofs.lemmas.Result.{err_from_is_err_and}
use Rattle.ini_edit.proofs.WholeTextLemmas.{read_in_pieces}
use Rattle.ini_edit.proofs.WholeTextRefusalLemmas.{refusal_of}
use Rattle.ini_file.specs.RuledMerges.{RefusesSettings}
use Rattle.ini_file.proofs.FurtherLemmas.{remade}
use Rattle.ini_file.proofs.RuledMergeLemmas.{settings_keep}
use Rattle.ini_file.proofs.ruled_merge.set_under.Goals as goal

pub returns-in-Err-clause-refused : goal.returns-in-Err-clause-refused
returns-in-Err-clause-refused c =
    let refused = c.in-Err.ensures in
    rw c.refused_first.ensures
    (RefusesSettings.reading (refusal_of _ _ c.in-Err.refused refused.only refused.fault))

pub returns-in_err-set_each-clause-refused : goal.returns-in_err-set_each-clause-refused
returns-in_err-set_each-clause-refused c =
    let e = err_from_is_err_and c.from_residual.result c.from_residual.ensures.1 in
    let read = c.in-Ok.ensures in
    rw (e.1, e.2)
    (RefusesSettings.pieces (record {
      pieces = c.in-Ok.source;
      is_read = read_in_pieces read.option read.text read.placed read.document;
      refused = c.in_err-set_each.ensures.refused;
    }))

pub returns-in-Ok-to_text-clause-made : goal.returns-in-Ok-to_text-clause-made
returns-in-Ok-to_text-clause-made c =
    let read = c.in-Ok.ensures in
    let made = c.in_ok-set_each.ensures.made in
    remade c.args.read (chars c.args.text.now) _ c.in-Ok.source c.set_each.new.source
    (read_in_pieces read.option read.text read.placed read.document) made
    (settings_keep c.args.rule c.args.write.now made) c.in-Ok-to_text.ensures.text
    c.in-Ok-to_text.ensures.document

pub returns-clause-refused : goal.returns-clause-refused
returns-clause-refused c =
    rw (c.refused_first-in-Err-to_text.ensures, c.in-Err-to_text.ensures.only) (RefusesSettings.reading tt)
