-- How the application of edits to a file ends.
use Rattle.std.specs.Prelude.{◌≡◌, ℕ, Bool, true, false, List, Some, ⊤, flat_map, map, reverse}
use Rattle.std.specs.Str.{IsUtf8}
use Rattle.ini_text.specs.Parsing.ByteOrderMarks.{without_byte_order_mark}
use Rattle.ini_text.specs.declared.error.Error.TheVariants.{Memory, NotUtf8, Parse}
use Rattle.ini_text.specs.declared.write.option.WriteOption.{WriteOption}
use Rattle.ini.specs.Loading.{IsStopOf, IsTextWith}
use Rattle.ini.specs.Texts.{Text}
use Rattle.ini_layers.specs.Differences.{SettingChange}
use Rattle.ini_layers.specs.SourceChanges.{AreMadeBy, RefusesOneBy}
use Rattle.ini_edit.specs.Sources.{Pieces}
use Rattle.ini_edit.specs.declared.edit_list.RefusedEdit.{RefusedEdit}
use Rattle.ini_file.specs.Bytes.{byte_order_mark_of}
use Rattle.ini_file.specs.EditLines.{HasNoEdit, edit_text}
use Rattle.ini_file.specs.Ruled.{RuledBy}
use Rattle.ini_file.specs.ThreeWays.{AreOfText, GetsMarkWith, IsTextAfter}
use Rattle.ini_file.specs.Writing.{IsWriting}
use Rattle.ini_file.specs.declared.apply.ApplyEnd.{ApplyEnd}
use Rattle.ini_file.specs.declared.apply.ApplyEnd.TheVariants.{Change, Done, Edits, File, GetsMark, Line}

-- what undoes a change
abbrev pub undone : SettingChange → SettingChange
undone c = record { name = c.name; key = c.key; old = c.new; new = c.old }

-- the changes, or what undoes them: the last one first
abbrev pub turned : Bool → List SettingChange → List SettingChange
turned true changes = reverse (map undone changes)
turned false changes = changes

module _ (r : RuledBy) (changes : List SettingChange) (T : Text) where
  -- the pieces of the text, and those with the changes made
  pub record AreApplied (old new : Pieces) : Type 0 where
    pub are_old : AreOfText r.options.reading T old
    pub option : WriteOption
    pub is_option : IsWriting r.options (Some r.separator) option
    pub are_made : AreMadeBy r.which r.rule option old changes new

  -- the bytes after the mark
  pub record IsApplied (byte_order_mark bytes : List ℕ) : Type 0 where
    pub old : Pieces
    pub new : Pieces
    pub are_applied : AreApplied old new
    pub is_text : IsTextAfter byte_order_mark new bytes

  -- the file would get a mark
  pub record GetsMarkApplied (byte_order_mark : List ℕ) : Type 0 where
    pub old : Pieces
    pub new : Pieces
    pub are_applied : AreApplied old new
    pub gets_mark : GetsMarkWith byte_order_mark new

  -- one of the changes is refused
  pub record RefusesApplied (refused : RefusedEdit) : Type 0 where
    pub old : Pieces
    pub are_old : AreOfText r.options.reading T old
    pub option : WriteOption
    pub is_option : IsWriting r.options (Some r.separator) option
    pub is_refused : RefusesOneBy r.which r.rule option old changes refused

-- how the application of changes to a text after a mark ends
abbrev pub EndsOnText : RuledBy → List SettingChange → List ℕ → Text → ApplyEnd → Type 0
EndsOnText r changes byte_order_mark T (Done bytes) = IsApplied r changes T byte_order_mark bytes.items
EndsOnText r changes byte_order_mark T (Change refused) = RefusesApplied r changes T refused
EndsOnText r changes byte_order_mark T GetsMark = GetsMarkApplied r changes T byte_order_mark
EndsOnText r changes byte_order_mark T (File (Parse e)) = IsStopOf r.options.reading T e
EndsOnText r changes byte_order_mark T (File (Memory _)) = ⊤
EndsOnText r changes byte_order_mark T _ = ⊥

-- the same of the file's bytes, which may be no text
abbrev pub EndsOnFile : RuledBy → List SettingChange → List ℕ → ApplyEnd → Type 0
EndsOnFile r changes file (File NotUtf8) = ¬ (IsUtf8 (without_byte_order_mark file))
EndsOnFile r changes file end =
    IsTextWith (λ T. EndsOnText r changes (byte_order_mark_of file) T end) (without_byte_order_mark file)

-- the edits tell these changes, and so it ends
pub record EndsOnChanges (r : RuledBy) (is_reversed : Bool) (edits file : List ℕ) (end : ApplyEnd)
    : Type 0 where
  pub changes : List SettingChange
  pub are_told : IsTextWith (λ T. T ≡ flat_map edit_text changes) (without_byte_order_mark edits)
  pub ends : EndsOnFile r (turned is_reversed changes) file end

-- how the application of these edits to a file with these bytes ends
abbrev pub HasApplication : RuledBy → Bool → (edits file : List ℕ) → ApplyEnd → Type 0
HasApplication r is_reversed edits file (Edits NotUtf8) = ¬ (IsUtf8 (without_byte_order_mark edits))
HasApplication r is_reversed edits file (Edits (Memory _)) = ⊤
HasApplication r is_reversed edits file (Edits _) = ⊥
HasApplication r is_reversed edits file (Line line) =
    IsTextWith (λ T. HasNoEdit T line) (without_byte_order_mark edits)
HasApplication r is_reversed edits file end = EndsOnChanges r is_reversed edits file end
