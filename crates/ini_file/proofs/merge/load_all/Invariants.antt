use Rattle.std.proofs.Common.{take}
use Rattle.ini_file.specs.Merges.{AreLoaded, bytes_of}
use Rattle.ini_file.proofs.merge.load_all.Given as goal

abbrev pub invariant-loop-index : goal.invariant-loop-index
invariant-loop-index l = AreLoaded l.read (bytes_of (take l.index l.files)) l.documents
