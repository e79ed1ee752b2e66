use Rattle.std.proofs.Common.{◌≡◌, [], refl, rules}
use Rattle.ini_edit.specs.Sources.{document_in}
use Rattle.ini_layers.specs.Settings.{AlikeBy}
use Rattle.ini_c.proofs.ChangeLemmas.{changes-made, changes-refused}
use Rattle.ini_c.proofs.pieces.merging.merge_into.Goals as goal

pub returns-in-Err-clause-unplain_value : goal.returns-in-Err-clause-unplain_value
returns-in-Err-clause-unplain_value c = λ is.
    changes-refused c.to_option-option.ensures.asked {p = c.args.theirs.now}
    (let side = c.side_of-side.ensures in cc)
    (c.status_of.ensures.value.0 is) c.in-Err.ensures.refused

pub returns-in-Err-clause-unplain_key : goal.returns-in-Err-clause-unplain_key
returns-in-Err-clause-unplain_key c = λ is.
    changes-refused c.to_option-option.ensures.asked {p = c.args.theirs.now}
    (let side = c.side_of-side.ensures in cc)
    (c.status_of.ensures.key.0 is) c.in-Err.ensures.refused

pub returns-in-Err-clause-unplain_name : goal.returns-in-Err-clause-unplain_name
returns-in-Err-clause-unplain_name c = λ is.
    changes-refused c.to_option-option.ensures.asked {p = c.args.theirs.now}
    (let side = c.side_of-side.ensures in cc)
    (c.status_of.ensures.name.0 is) c.in-Err.ensures.refused

pub returns-in-Err-clause-no_place : goal.returns-in-Err-clause-no_place
returns-in-Err-clause-no_place c = λ is.
    changes-refused c.to_option-option.ensures.asked {p = c.args.theirs.now}
    (let side = c.side_of-side.ensures in cc)
    (c.status_of.ensures.no_place.0 is) c.in-Err.ensures.refused

pub returns-in-Ok-clause-made : goal.returns-in-Ok-clause-made
returns-in-Ok-clause-made c = λ _.
    record {
      merged = search rules;
      made = search rules;
      ours_is_base =
          changes-made (λ _ old new. AlikeBy c.args.rule.which c.args.rule.lookup c.args.base.now
          c.args.ours.now → new ≡ old)
          {p = c.args.theirs.now} {changes = []} {given = []} refl
          c.replace_with.ensures.is c.in-Ok.ensures.ours_is_base;
      theirs_is_base = search rules;
      both_alike =
          changes-made (λ _ old new. AlikeBy c.args.rule.which c.args.rule.lookup c.args.ours.now
          (document_in old) → new ≡ old)
          {p = c.args.theirs.now} {changes = []} {given = []} refl
          c.replace_with.ensures.is c.in-Ok.ensures.both_alike;
    }
