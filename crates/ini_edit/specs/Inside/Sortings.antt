-- Units as the code keeps them, and what it compares of two.
use Rattle.std.specs.Prelude.{◌&&◌, Bool, chars, map}
use Rattle.ini.specs.Texts.{is_name, is_text}
use Rattle.ini_edit.specs.Inside.SourceLayouts.{all_same}
use Rattle.ini_edit.specs.SourceEntries.{behind_value, comments_in}
use Rattle.ini_edit.specs.Sorting.{PairUnit, SectionUnit}
use Rattle.ini_edit.specs.declared.source.layout.units.PairUnit.{PairUnit as LentPair}
use Rattle.ini_edit.specs.declared.source.layout.units.SectionUnit.{SectionUnit as LentSection}

abbrev pub pair_unit_of : LentPair → PairUnit
pair_unit_of u = record { above = chars u.above.now; pair = u.pair.now; rest = chars u.rest.now }

abbrev pub section_unit_of : LentSection → SectionUnit
section_unit_of u = record {
  above = chars u.above.now;
  section = u.section.now;
  rest = chars u.rest.now;
  pairs = map pair_unit_of u.pairs.items;
}

-- whether two units say the same
abbrev pub says_same_pair_unit : LentPair → LentPair → Bool
says_same_pair_unit p q =
    let u = pair_unit_of p in
    let v = pair_unit_of q in
    is_text u.pair.key v.pair.key && (is_text u.pair.value v.pair.value
    && (is_text (comments_in u.above) (comments_in v.above)
    && is_text (comments_in (behind_value u.pair.stretches u.rest))
    (comments_in (behind_value v.pair.stretches v.rest))))

abbrev pub says_same_section_unit : LentSection → LentSection → Bool
says_same_section_unit s t =
    is_name s.section.now.name t.section.now.name
    && (is_text (comments_in (chars s.above.now)) (comments_in (chars t.above.now))
    && (is_text (comments_in (chars s.rest.now)) (comments_in (chars t.rest.now))
    && all_same says_same_pair_unit s.pairs.items t.pairs.items))
