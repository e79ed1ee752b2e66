use Rattle.std.proofs.Common.{◌∷◌, List}
use Rattle.ini.specs.Texts.{Text}
use Rattle.ini_text.specs.Parsing.Items.{string_text}
use Rattle.ini_check.specs.Mends.Texts.{IsMended, count_of}
use Rattle.ini_check.specs.Warnings.{AreWarningsOf}
use Rattle.ini_check.specs.declared.warning.Trap.{Trap}
use Rattle.ini_check.proofs.mends.mend_trap.Given as goal

abbrev pub decreases-rounds : goal.decreases-rounds
decreases-rounds l = count_of l.trap l.warnings.items

abbrev pub invariant-rounds : goal.invariant-rounds
invariant-rounds l = record {
  warnings : AreWarningsOf l.fn.read (string_text l.made) l.warnings.items;
  mended : (traps : List Trap) (last : Text) → IsMended l.fn.read (l.trap ∷ traps) (string_text l.made) last
      → IsMended l.fn.read (l.trap ∷ traps) (string_text l.fn.text) last;
}
