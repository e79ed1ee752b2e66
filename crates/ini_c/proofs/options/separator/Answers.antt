use Rattle.std.proofs.Common.{◌∷◌, [], refl}
use Rattle.std.specs.Str.{chars}
use Rattle.ini_c.proofs.options.separator.Goals as goal

pub returns-in-0-clause-plain : goal.returns-in-0-clause-plain
unfolding chars
returns-in-0-clause-plain c = record {
  before = [];
  separator = 0x3D;
  after = [];
  whole = refl;
  separates = refl;
  blank_before = refl;
  blank_after = refl;
}

pub returns-in-1-clause-plain : goal.returns-in-1-clause-plain
unfolding chars
returns-in-1-clause-plain c = record {
  before = 0x20 ∷ [];
  separator = 0x3D;
  after = 0x20 ∷ [];
  whole = refl;
  separates = refl;
  blank_before = refl;
  blank_after = refl;
}

pub returns-in-2-clause-plain : goal.returns-in-2-clause-plain
unfolding chars
returns-in-2-clause-plain c = record {
  before = [];
  separator = 0x3A;
  after = [];
  whole = refl;
  separates = refl;
  blank_before = refl;
  blank_after = refl;
}

pub returns-in_default-clause-plain : goal.returns-in_default-clause-plain
unfolding chars
returns-in_default-clause-plain c = record {
  before = [];
  separator = 0x3A;
  after = 0x20 ∷ [];
  whole = refl;
  separates = refl;
  blank_before = refl;
  blank_after = refl;
}
