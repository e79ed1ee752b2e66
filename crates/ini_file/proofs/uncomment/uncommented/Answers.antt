use Rattle.std.proofs.Common.{ap, chars}
use Rattle.std.proofs.lemmas.Result.{err_from_is_err_and}
use Rattle.ini.specs.Texts.{str_name}
use Rattle.ini_edit.specs.Sources.{document_in}
use Rattle.ini_edit.proofs.WholeTextRefusalLemmas.{refusal_of}
use Rattle.ini_file.specs.Uncomment.{RefusesToUncomment}
use Rattle.ini_file.proofs.UncommentLemmas.{found_some, tried}
use Rattle.ini_file.proofs.uncomment.uncommented.Goals as goal

pub returns-in_err-source-clause-refused : goal.returns-in_err-source-clause-refused
returns-in_err-source-clause-refused c =
    let e = err_from_is_err_and c.from_residual.result c.from_residual.ensures.1 in
    let refused = c.in_err-source.ensures in
    rw (e.1, e.2)
    (RefusesToUncomment.reading (refusal_of _ _ c.in_err-source.field-0.0 refused.only refused.fault))

pub returns-in_err-new-clause-refused : goal.returns-in_err-new-clause-refused
returns-in_err-new-clause-refused c =
    let r = c.from_residual-in_err-new in
    let e = err_from_is_err_and r.result r.ensures.1 in
    let refused = c.in_err-new.ensures in
    rw (e.1, e.2)
    (RefusesToUncomment.reading (refusal_of _ _ c.in_err-new.field-0.0 refused.only refused.fault))

pub returns-in_err-is_one_more-clause-refused : goal.returns-in_err-is_one_more-clause-refused
returns-in_err-is_one_more-clause-refused c =
    let r = c.from_residual-in_err-is_one_more in
    let e = err_from_is_err_and r.result r.ensures.1 in
    rw (e.1, e.2, c.in_err-is_one_more.ensures.only) (RefusesToUncomment.reading tt)

pub returns-in-Some-find_in_source-clause-refused : goal.returns-in-Some-find_in_source-clause-refused
returns-in-Some-find_in_source-clause-refused c =
    RefusesToUncomment.there
    (found_some c.args.rule (str_name c.args.name) (chars c.args.key.now) _ c.in-Some.is
    c.in_ok-new.ensures.found) c.in_ok-source.ensures.document c.in-Some-find_in_source.ensures.found

pub returns-then-not-branch-clause-refused : goal.returns-then-not-branch-clause-refused
returns-then-not-branch-clause-refused c =
    RefusesToUncomment.otherwise
    (found_some c.args.rule (str_name c.args.name) (chars c.args.key.now) _ c.in-Some.is
    c.in_ok-new.ensures.found) c.in_ok-source.ensures.document
    (tried c.args.rule (str_name c.args.name) (chars c.args.key.now) (ap chars c.as_str.ensures.value)
    c.if-not-branch.true c.in_ok-is_one_more.ensures.more)

pub returns-clause-made : goal.returns-clause-made
returns-clause-made c = record {
  document = document_in c.in_ok-source.source;
  was = c.in_ok-source.ensures.document;
  lacked = c.in_default-find_in_source.ensures.none;
  first = found_some c.args.rule (str_name c.args.name) (chars c.args.key.now) _ c.in-Some.is
      c.in_ok-new.ensures.found;
  is_more = tried c.args.rule (str_name c.args.name) (chars c.args.key.now) (ap chars c.as_str.ensures.value)
      c.if-not-branch.false c.in_ok-is_one_more.ensures.more;
}
