-- How a three-way merge of files ends, and its exit status.
use Rattle.std.specs.Prelude.{◌≡◌, ◌==◌, ℕ, false, true, if◌then◌else◌, List, [], ◌++◌, Option, None, Some}
use Rattle.std.specs.Prelude.{⊤, chars, flat_map, unwrap_or, vec_len}
use Rattle.std.specs.Option.{option_or}
use Rattle.std.specs.Str.{IsUtf8}
use Rattle.ini_text.specs.Parsing.ByteOrderMarks.{has_byte_order_mark, without_byte_order_mark}
use Rattle.ini_text.specs.declared.error.Error.{Error}
use Rattle.ini_text.specs.declared.error.Error.TheVariants.{Memory, NotUtf8, Parse}
use Rattle.ini_text.specs.declared.option.ParseOption.{ParseOption}
use Rattle.ini_text.specs.declared.write.option.WriteOption.{WriteOption}
use Rattle.ini.specs.Documents.{Document}
use Rattle.ini.specs.Loading.{IsDocumentOf, IsStopOf, IsTextWith}
use Rattle.ini.specs.Texts.{Text}
use Rattle.ini_dialect.specs.declared.rule.Lookup.{Lookup}
use Rattle.ini_layers.specs.Merging.{conflicts_by, is_conflict, merged_value, taken_by}
use Rattle.ini_layers.specs.Settings.{value_by}
use Rattle.ini_layers.specs.SourceChanges.{AreMadeBy, RefusesOneBy}
use Rattle.ini_layers.specs.declared.change.SettingValue.{SettingValue}
use Rattle.ini_layers.specs.declared.merging.Side.{Side}
use Rattle.ini_layers.specs.declared.merging.Side.TheVariants.{Theirs as TheirSide}
use Rattle.ini_edit.specs.SourceReads.{AreRead}
use Rattle.ini_edit.specs.Sources.{Pieces, document_in, text_in}
use Rattle.ini_edit.specs.declared.edit_list.RefusedEdit.{RefusedEdit}
use Rattle.ini_file.specs.Bytes.{byte_order_mark_of}
use Rattle.ini_file.specs.ChangeLines.{conflict_line}
use Rattle.ini_file.specs.LeftConflicts.{AreLeftUnless, RefusesUnless}
use Rattle.ini_file.specs.Merges.{Loads, RefusesFile}
use Rattle.ini_file.specs.Ruled.{RuledBy}
use Rattle.ini_file.specs.Writing.{IsWriting}
use Rattle.ini_file.specs.declared.three_way.ThreeWayDone.{ThreeWayDone}
use Rattle.ini_file.specs.declared.three_way.ThreeWayEnd.{ThreeWayEnd}
use Rattle.ini_file.specs.declared.three_way.ThreeWayEnd.TheVariants.{Base, Change, Conflict, Done, GetsMark}
use Rattle.ini_file.specs.declared.three_way.ThreeWayEnd.TheVariants.{Ours, Theirs}

-- the pieces are those of the text
pub record AreOfText (o : ParseOption) (T : Text) (p : Pieces) : Type 0 where
  pub option : p.option ≡ o
  pub text : text_in p ≡ T
  pub document : IsDocumentOf o T (document_in p)
  pub placed : AreRead o p.sections

-- the bytes are those of a mark, and of the text of the pieces, which gives no file a mark that has none
pub record IsTextAfter (byte_order_mark : List ℕ) (p : Pieces) (bytes : List ℕ) : Type 0 where
  pub text : List ℕ
  pub is_utf8 : IsUtf8 text
  pub is_text : chars text ≡ text_in p
  pub is_after : bytes ≡ byte_order_mark ++ text
  pub gets_none : byte_order_mark ≡ [] → has_byte_order_mark text ≡ false

-- there is no mark, and the text of the pieces would be one
pub record GetsMarkWith (byte_order_mark : List ℕ) (p : Pieces) : Type 0 where
  pub text : List ℕ
  pub is_utf8 : IsUtf8 text
  pub is_text : chars text ≡ text_in p
  pub has_none : byte_order_mark ≡ []
  pub gets : has_byte_order_mark text ≡ true

-- whose value of a conflict stands before any is left: that of theirs, where no side is chosen
abbrev pub side_below : Option Side → Side
side_below side = unwrap_or side TheirSide

-- What a setting has then: the merged value; without a side, of one in conflict that of ours where it has one,
-- else that of theirs.
abbrev pub three_way_value : Option Side → (base ours theirs : Option Text) → Option Text
three_way_value (Some side) base ours theirs = merged_value side base ours theirs
three_way_value None base ours theirs =
    if is_conflict base ours theirs then option_or ours theirs else merged_value TheirSide base ours theirs

-- every setting has that under the rule
pub record HasThreeWayValues (which : SettingValue) (rule : Lookup) (side : Option Side)
    (base ours theirs new : Document) : Type 0 where
  pub each : (name : Option Text) (key : Text) → value_by which rule name key new
      ≡ three_way_value side (value_by which rule name key base) (value_by which rule name key ours)
      (value_by which rule name key theirs)

module _ (r : RuledBy) (side : Option Side) (base ours : Document) (T : Text) where
  -- Theirs, which has the text T, with the changes of ours. The conflicts are left in it unless a side is
  -- chosen.
  pub record AreMerged (theirs new : Pieces) : Type 0 where
    pub are_theirs : AreOfText r.options.reading T theirs
    pub option : WriteOption
    pub is_option : IsWriting r.options (Some r.separator) option
    pub has_values : HasThreeWayValues r.which r.rule side base ours (document_in theirs) (document_in new)
    pub mid : Pieces
    pub are_made : AreMadeBy r.which r.rule option theirs
        (taken_by r.which r.rule (side_below side) base ours (document_in theirs)) mid
    pub are_left : AreLeftUnless r.which r.rule option side mid
        (conflicts_by r.which r.rule base ours (document_in theirs)) new

  -- the bytes after the mark, and the lines of the conflicts
  pub record IsThreeWay (byte_order_mark : List ℕ) (done : ThreeWayDone) : Type 0 where
    pub theirs : Pieces
    pub new : Pieces
    pub are_merged : AreMerged theirs new
    pub is_text : IsTextAfter byte_order_mark new done.bytes.items
    pub are_conflicts : done.conflicts.items
        ≡ flat_map conflict_line (conflicts_by r.which r.rule base ours (document_in theirs))

  -- it would get a mark
  pub record GetsMarkThreeWay (byte_order_mark : List ℕ) : Type 0 where
    pub theirs : Pieces
    pub new : Pieces
    pub are_merged : AreMerged theirs new
    pub gets_mark : GetsMarkWith byte_order_mark new

  -- one of the changes is refused
  pub record RefusesChange (refused : RefusedEdit) : Type 0 where
    pub theirs : Pieces
    pub are_theirs : AreOfText r.options.reading T theirs
    pub option : WriteOption
    pub is_option : IsWriting r.options (Some r.separator) option
    pub is_refused : RefusesOneBy r.which r.rule option theirs
        (taken_by r.which r.rule (side_below side) base ours (document_in theirs)) refused

  -- one of the conflicts is
  pub record RefusesConflict (refused : RefusedEdit) : Type 0 where
    pub theirs : Pieces
    pub are_theirs : AreOfText r.options.reading T theirs
    pub option : WriteOption
    pub is_option : IsWriting r.options (Some r.separator) option
    pub mid : Pieces
    pub are_made : AreMadeBy r.which r.rule option theirs
        (taken_by r.which r.rule (side_below side) base ours (document_in theirs)) mid
    pub is_refused : RefusesUnless r.which r.rule option side mid
        (conflicts_by r.which r.rule base ours (document_in theirs)) refused

-- how a merge of two documents into a text after a mark ends
abbrev pub EndsOnSides : RuledBy → Option Side → (base ours : Document) → List ℕ → Text → ThreeWayEnd → Type 0
EndsOnSides r side base ours byte_order_mark T (Done done) =
    IsThreeWay r side base ours T byte_order_mark done
EndsOnSides r side base ours byte_order_mark T (Change refused) = RefusesChange r side base ours T refused
EndsOnSides r side base ours byte_order_mark T (Conflict refused) = RefusesConflict r side base ours T refused
EndsOnSides r side base ours byte_order_mark T GetsMark = GetsMarkThreeWay r side base ours T byte_order_mark
EndsOnSides r side base ours byte_order_mark T (Theirs (Parse e)) = IsStopOf r.options.reading T e
EndsOnSides r side base ours byte_order_mark T (Theirs (Memory _)) = ⊤
EndsOnSides r side base ours byte_order_mark T _ = ⊥

-- the same of the bytes of theirs, which may be no text
abbrev pub EndsOnTheirs : RuledBy → Option Side → (base ours : Document) → List ℕ → ThreeWayEnd → Type 0
EndsOnTheirs r side base ours theirs (Theirs NotUtf8) = ¬ (IsUtf8 (without_byte_order_mark theirs))
EndsOnTheirs r side base ours theirs end =
    IsTextWith (λ T. EndsOnSides r side base ours (byte_order_mark_of theirs) T end)
    (without_byte_order_mark theirs)

-- ours has no document, and the base has one
pub record RefusesOurs (o : ParseOption) (base ours : List ℕ) (e : Error) : Type 0 where
  pub base_document : Document
  pub is_base : Loads o base base_document
  pub is_refused : RefusesFile o ours e

-- the base and ours have documents, and so it ends
pub record EndsOnDocuments (r : RuledBy) (side : Option Side) (base ours theirs : List ℕ)
    (end : ThreeWayEnd) : Type 0 where
  pub base_document : Document
  pub ours_document : Document
  pub is_base : Loads r.options.reading base base_document
  pub is_ours : Loads r.options.reading ours ours_document
  pub ends : EndsOnTheirs r side base_document ours_document theirs end

-- how a merge of files with these bytes ends
abbrev pub HasThreeWay : RuledBy → Option Side → (base ours theirs : List ℕ) → ThreeWayEnd → Type 0
HasThreeWay r side base ours theirs (Base e) = RefusesFile r.options.reading base e
HasThreeWay r side base ours theirs (Ours e) = RefusesOurs r.options.reading base ours e
HasThreeWay r side base ours theirs end = EndsOnDocuments r side base ours theirs end

-- the exit status of a merge whose bytes were handed on: 1 where settings are in conflict
abbrev pub three_way_status : ThreeWayDone → ℕ
three_way_status done = if vec_len done.conflicts == 0 then 0 else 1
