-- How a three-way merge of files ends, once the base and ours have documents.
use Rattle.std.proofs.Common.{◌≡◌, List, Option, ℕ, chars, subst}
use Rattle.std.specs.Str.{IsUtf8}
use Rattle.ini_text.specs.Parsing.ByteOrderMarks.{without_byte_order_mark}
use Rattle.ini_text.specs.declared.error.Error.TheVariants.{Io, Memory, NoProgress, NotUtf8, Parse}
use Rattle.ini.specs.Documents.{Document}
use Rattle.ini_layers.specs.declared.merging.Side.{Side}
use Rattle.ini_file.specs.Bytes.{byte_order_mark_of}
use Rattle.ini_file.specs.Merges.{Loads}
use Rattle.ini_file.specs.Ruled.{RuledBy}
use Rattle.ini_file.specs.ThreeWays.{EndsOnDocuments, EndsOnSides, EndsOnTheirs, HasThreeWay}
use Rattle.ini_file.specs.declared.three_way.ThreeWayEnd.{ThreeWayEnd}
use Rattle.ini_file.specs.declared.three_way.ThreeWayEnd.TheVariants.{Base, Change, Conflict, Done, GetsMark}
use Rattle.ini_file.specs.declared.three_way.ThreeWayEnd.TheVariants.{Ours, Theirs}

module _ (r : RuledBy) (side : Option Side) (base ours theirs : List ℕ) (b o : Document)
    (is_base : Loads r.options.reading base b) (is_ours : Loads r.options.reading ours o) where
  whole : (end : ThreeWayEnd) → EndsOnTheirs r side b o theirs end
      → EndsOnDocuments r side base ours theirs end
  whole end ends = record {
    base_document = b;
    ours_document = o;
    is_base = is_base;
    is_ours = is_ours;
    ends = ends;
  }

  ends_whole : (end : ThreeWayEnd) → IsUtf8 (without_byte_order_mark theirs)
      → EndsOnSides r side b o (byte_order_mark_of theirs) (chars (without_byte_order_mark theirs)) end
      → HasThreeWay r side base ours theirs end
  ends_whole (Done done) utf8 ends = whole (Done done) (utf8, ends)
  ends_whole (Base e) utf8 ends = absurd ends
  ends_whole (Ours e) utf8 ends = absurd ends
  ends_whole (Theirs (Parse e)) utf8 ends = whole (Theirs (Parse e)) (utf8, ends)
  ends_whole (Theirs (Memory e)) utf8 ends = whole (Theirs (Memory e)) (utf8, ends)
  ends_whole (Theirs (Io e)) utf8 ends = absurd ends
  ends_whole (Theirs NotUtf8) utf8 ends = absurd ends
  ends_whole (Theirs NoProgress) utf8 ends = absurd ends
  ends_whole (Change refused) utf8 ends = whole (Change refused) (utf8, ends)
  ends_whole (Conflict refused) utf8 ends = whole (Conflict refused) (utf8, ends)
  ends_whole GetsMark utf8 ends = whole GetsMark (utf8, ends)

  -- the same of a front and a text that are those of theirs
  pub ends_sides : (front text : List ℕ) → front ≡ byte_order_mark_of theirs
      → text ≡ without_byte_order_mark theirs → IsUtf8 text → (end : ThreeWayEnd)
      → EndsOnSides r side b o front (chars text) end → HasThreeWay r side base ours theirs end
  ends_sides front text is_front is_text utf8 end ends =
      ends_whole end (subst IsUtf8 is_text utf8)
      (subst (λ t. EndsOnSides r side b o (byte_order_mark_of theirs) (chars t) end) is_text
      (subst (λ m. EndsOnSides r side b o m (chars text) end) is_front ends))
