use Rattle.std.proofs.Common.{◌∙◌, ◌++◌, ap, chars, rules}
use Rattle.std.proofs.lemmas.Str.{chars-nil}
use Rattle.ini_check.specs.Traps.Keys.{lower}
use Rattle.ini_check.proofs.lower.lowered.Goals as goal

pub characters-init : goal.characters-init
characters-init c = record {
  text = search rules;
  made = ap (λ m. m ++ lower (chars c.args.text.now)) (ap chars c.new-made.ensures.bytes ∙ chars-nil);
}
