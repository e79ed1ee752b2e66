use Rattle.std.proofs.Common.{◌≡◌, arith, chars, subst}
use Rattle.ini_text.specs.Parsing.Fronts.{IsRest}
use Rattle.ini_edit.specs.SourceLines.{after_line}
use Rattle.ini_edit.proofs.SourceLineLemmas.{after_line-rest}
use Rattle.ini_edit.proofs.source.lines.split_line.Goals as goal

pub front_before-requires : goal.front_before-requires
front_before-requires c =
    let text = chars c.args.text.now in
    let is : after_line text ≡ chars c.after_line_end-following.result.now = grind arith in
    subst (IsRest text) is (after_line-rest text)
