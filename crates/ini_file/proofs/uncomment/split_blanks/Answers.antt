use Rattle.std.proofs.Common.{◌≡◌, arith, chars, subst}
use Rattle.ini_text.specs.Parsing.Fronts.{IsRest}
use Rattle.ini_edit.specs.SourceLines.{after_blanks}
use Rattle.ini_edit.proofs.SourceLineLemmas.{after_blanks-rest}
use Rattle.ini_file.proofs.uncomment.split_blanks.Goals as goal

pub front_before-requires : goal.front_before-requires
front_before-requires c =
    let text = chars c.args.text.now in
    let is : after_blanks text ≡ chars c.characters.rest.now = grind arith in
    subst (IsRest text) is (after_blanks-rest text)
