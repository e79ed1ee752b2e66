use Rattle.std.proofs.Common.{rules}
use Rattle.ini_edit.specs.Sources.{document_in}
use Rattle.ini_layers.specs.Applying.{LeadsToBy}
use Rattle.ini_c.proofs.ChangeLemmas.{changes-made, changes-refused}
use Rattle.ini_c.proofs.pieces.differences.apply_given.Goals as goal

pub returns-in-Ok-apply_by-clause-made : goal.returns-in-Ok-apply_by-clause-made
returns-in-Ok-apply_by-clause-made c = λ _.
    record {
      made = search rules;
      values = search rules;
      leads =
          changes-made (λ changes old new. LeadsToBy c.args.rule.which c.args.rule.lookup changes
          (document_in old) (document_in new))
          {p = c.args.source.now}
          (let slice = c.as_slice.ensures.value in let given = c.in-Ok.ensures.changes in cc)
          c.replace_with.ensures.is c.in-Ok-apply_by.ensures.leads;
    }

pub returns-clause-unplain_value : goal.returns-clause-unplain_value
returns-clause-unplain_value c = λ is.
    changes-refused c.to_option-option.ensures.asked {p = c.args.source.now}
    (let slice = c.as_slice.ensures.value in let given = c.in-Ok.ensures.changes in cc)
    (c.status_of.ensures.value.0 is) c.in-Err-apply_by.ensures.refused

pub returns-clause-unplain_key : goal.returns-clause-unplain_key
returns-clause-unplain_key c = λ is.
    changes-refused c.to_option-option.ensures.asked {p = c.args.source.now}
    (let slice = c.as_slice.ensures.value in let given = c.in-Ok.ensures.changes in cc)
    (c.status_of.ensures.key.0 is) c.in-Err-apply_by.ensures.refused

pub returns-clause-unplain_name : goal.returns-clause-unplain_name
returns-clause-unplain_name c = λ is.
    changes-refused c.to_option-option.ensures.asked {p = c.args.source.now}
    (let slice = c.as_slice.ensures.value in let given = c.in-Ok.ensures.changes in cc)
    (c.status_of.ensures.name.0 is) c.in-Err-apply_by.ensures.refused

pub returns-clause-no_place : goal.returns-clause-no_place
returns-clause-no_place c = λ is.
    changes-refused c.to_option-option.ensures.asked {p = c.args.source.now}
    (let slice = c.as_slice.ensures.value in let given = c.in-Ok.ensures.changes in cc)
    (c.status_of.ensures.no_place.0 is) c.in-Err-apply_by.ensures.refused
