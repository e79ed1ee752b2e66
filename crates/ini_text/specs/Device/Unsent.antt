-- What a gatherer has been given and hasn't sent yet.
use Rattle.std.specs.Prelude.{ℕ, List}
use Rattle.ini_text.specs.Buffered.{buffered}
use Rattle.ini_text.specs.declared.write.gather.Gatherer.{Gatherer}

abbrev pub unsent : Gatherer → List ℕ
unsent gatherer = buffered gatherer.buffer
