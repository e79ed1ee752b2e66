use Rattle.std.proofs.Common.{Err, ap, chars}
use Rattle.std.proofs.lemmas.Result.{err_from_is_err_and}
use Rattle.ini_edit.proofs.WholeTextLemmas.{read_in_pieces}
use Rattle.ini_edit.proofs.WholeTextRefusalLemmas.{refusal_of}
use Rattle.ini_dialect.specs.RuledTexts.{RefusesInText}
use Rattle.ini_dialect.proofs.RuledTextLemmas.{refuses_name}
use Rattle.ini_file.proofs.further.with_section.Goals as goal

pub returns-in_err-source-clause-refused : goal.returns-in_err-source-clause-refused
returns-in_err-source-clause-refused c =
    let e = err_from_is_err_and c.from_residual.result c.from_residual.ensures.1 in
    let refused = c.in_err-source.ensures in
    rw (e.1, e.2)
    (RefusesInText.reading (refusal_of _ _ c.in_err-source.field-0.0 refused.only refused.fault))

pub returns-in_err-add_section-clause-refused : goal.returns-in_err-add_section-clause-refused
returns-in_err-add_section-clause-refused c =
    let r = c.from_residual-in_err-add_section in
    let e = err_from_is_err_and r.result r.ensures.1 in
    let read = c.in_ok-source.ensures in
    rw (e.1, e.2)
    (RefusesInText.pieces (record {
      pieces = c.in_ok-source.source;
      is_read = read_in_pieces read.option read.text read.placed read.document;
      refused = refuses_name c.in_ok-source.source.option c.args.write.now.escape_policy
          (chars c.args.name.now) c.in_err-add_section.field-0.0 c.in_err-add_section.ensures.only
          (λ is. c.in_err-add_section.ensures.name.0 (ap Err is));
    }))

pub returns-in_err-to_text-clause-refused : goal.returns-in_err-to_text-clause-refused
returns-in_err-to_text-clause-refused c =
    let r = c.from_residual-in_err-to_text in
    let e = err_from_is_err_and r.result r.ensures.1 in
    rw (e.1, e.2, c.in_err-to_text.ensures.only) (RefusesInText.reading tt)
