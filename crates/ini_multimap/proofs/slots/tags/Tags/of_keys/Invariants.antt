use Rattle.std.proofs.Common.{◌≡◌, length}
use Rattle.ini_multimap.proofs.TagLemmas.{AreUpTo}
use Rattle.ini_multimap.proofs.slots.tags.Tags.of_keys.Given as goal

abbrev pub invariant-loop-s : goal.invariant-loop-s
invariant-loop-s g l = record {
  tagged : AreUpTo g.K.MapKey.key_code l.keys l.s l.tags.of;
  long : length l.tags.of ≡ 16;
}
