use Rattle.std.proofs.Common.{refl}
use Rattle.std.proofs.lemmas.Str.{chars-nil}
use Rattle.ini_edit.proofs.GapPlaceLemmas.{same_place}
use Rattle.ini_edit.proofs.source.place.at_front.Goals as goal

pub returns : goal.returns
returns c = same_place chars-nil refl chars-nil refl
