use Rattle.std.proofs.Common.{◌≡◌, map, take}
use Rattle.ini.specs.Properties.{texts_of}
use Rattle.ini.specs.Texts.{str_text}
use Rattle.ini_layers.proofs.applying.lent.Given as goal

abbrev pub invariant-loop-text : goal.invariant-loop-text
invariant-loop-text l = map str_text l.lent.items ≡ texts_of (take l.text-index l.texts)
