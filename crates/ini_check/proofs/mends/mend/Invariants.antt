use Rattle.std.proofs.Common.{chars, length}
use Rattle.ini.specs.Texts.{Text}
use Rattle.ini_text.specs.Parsing.Items.{string_text}
use Rattle.ini_check.specs.Mends.Texts.{IsMended}
use Rattle.ini_check.specs.Warnings.{AreWarningsOf}
use Rattle.ini_check.proofs.mends.mend.Given as goal

abbrev pub decreases-traps : goal.decreases-traps
decreases-traps l = length l.rest

abbrev pub invariant-traps : goal.invariant-traps
invariant-traps l = record {
  warnings : AreWarningsOf l.fn.read (string_text l.made) l.warnings.items;
  mended : (last : Text) → IsMended l.fn.read l.rest (string_text l.made) last
      → IsMended l.fn.read l.fn.traps (chars l.fn.text) last;
}
