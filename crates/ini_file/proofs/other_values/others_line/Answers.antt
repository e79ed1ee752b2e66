use Rattle.ini.specs.Texts.{str_name}
use Rattle.ini_file.proofs.ChangeLemmas.{others-bytes}
use Rattle.ini_file.proofs.other_values.others_line.Goals as goal

pub returns : goal.returns
returns c =
    others-bytes (str_name c.args.change.name) _ _ _ c.args.change.key.now c.front_of.ensures _ _
    c.new-line.ensures.items c.in_ok-push_parts.ensures
