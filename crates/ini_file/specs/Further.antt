-- Edits of a text that are none of the list of `ini_edit`: what each makes of a text, and what it is refused
-- with.
use Rattle.std.specs.Prelude.{◌≡◌, ◌==◌, ◌&&◌, ◌⊎◌, Bool, true, false, ℕ, List, [], ◌++◌, Option, None, Some}
use Rattle.std.specs.Prelude.{⊤, chars}
use Rattle.std.specs.Str.{IsUtf8}
use Rattle.ini_text.specs.Parsing.ByteOrderMarks.{has_byte_order_mark}
use Rattle.ini_text.specs.declared.error.Error.TheVariants.{Memory}
use Rattle.ini_text.specs.declared.option.ParseOption.{ParseOption}
use Rattle.ini_text.specs.declared.write.option.WriteOption.{WriteOption}
use Rattle.ini.specs.Texts.{Text, str_name, str_text}
use Rattle.ini_edit.specs.Editings.{Delete}
use Rattle.ini_edit.specs.SourceEditsAdded.{AddsSection}
use Rattle.ini_edit.specs.Sources.{Pieces, document_in}
use Rattle.ini_edit.specs.declared.error.EditError.{EditError}
use Rattle.ini_edit.specs.declared.error.EditError.TheVariants.{Key, Text as TextError}
use Rattle.ini_dialect.specs.KeyEdits.{IsCommentedOutUnder, RefusesToCommentOutUnder}
use Rattle.ini_dialect.specs.RuledTexts.{HasNothingUnder, IsMadeUnder, LacksUnder, RefusesInText}
use Rattle.ini_dialect.specs.RuledTexts.{RefusesMadeUnder}
use Rattle.ini_dialect.specs.SectionEdits.{RefusesName, has_fitting}
use Rattle.ini_dialect.specs.declared.rule.CaseRule.{CaseRule}
use Rattle.ini_dialect.specs.declared.rule.Lookup.{Lookup}
use Rattle.ini_words.specs.Words.{Word}
use Rattle.ini_words.specs.declared.options.Options.{Options}
use Rattle.ini_file.specs.Remade.{IsRemadeText}
use Rattle.ini_file.specs.Uncomment.{FindsComment, IsUncommentedText, RefusesToUncomment}
use Rattle.ini_file.specs.ValueLists.{HasValuesText, RefusesValues, texts_in}
use Rattle.ini_file.specs.Writing.{IsWriting}
use Rattle.ini_file.specs.declared.further.FurtherEdit.{FurtherEdit}
use Rattle.ini_file.specs.declared.further.FurtherEdit.TheVariants as edit

pub data FurtherEditing : Type 0 where
  DeleteAll : (name : Option Text) (key : Text) → FurtherEditing
  SetAll : (name : Option Text) (key : Text) (values : List Text) → FurtherEditing
  AddSection : (name : Text) → FurtherEditing
  CommentOut : (name : Option Text) (key : Text) → FurtherEditing
  Uncomment : (name : Option Text) (key : Text) → FurtherEditing

abbrev pub further_of : FurtherEdit → FurtherEditing
further_of (edit.DeleteAll name key) = DeleteAll (str_name name) (str_text key)
further_of (edit.SetAll name key values) = SetAll (str_name name) (str_text key) (texts_in values.now)
further_of (edit.AddSection name) = AddSection (str_text name)
further_of (edit.CommentOut name key) = CommentOut (str_name name) (str_text key)
further_of (edit.Uncomment name key) = Uncomment (str_name name) (str_text key)

-- where one has it all stays; else a section is added
abbrev pub AddsNamed : Bool → WriteOption → Text → Pieces → Pieces → Type 0
AddsNamed true w name p q = q ≡ p
AddsNamed false w name p q = (added : Bool) × AddsSection p.option w p q name added

abbrev pub HasSectionText : CaseRule → ParseOption → WriteOption → (name T U : Text) → Type 0
HasSectionText case o w name T U =
    IsRemadeText o T U (λ p q. AddsNamed (has_fitting case name (document_in p)) w name p q)

-- adding it is refused for its name, whatever the text is; or memory is
abbrev pub RefusesSection : WriteOption → Text → Pieces → EditError → Type 0
RefusesSection w name p e = RefusesName p.option w.escape_policy name e

-- the text U is T, and the pair that counts is a comment
abbrev pub IsCommentedText : Lookup → ParseOption → Option Text → (key T U : Text) → Type 0
IsCommentedText rule o name key T U =
    IsRemadeText o T U (λ p q. IsCommentedOutUnder rule name key p q)

-- the text U is T with the edit made in it
abbrev pub IsFurtherText : Lookup → ParseOption → WriteOption → FurtherEditing → (T U : Text) → Type 0
IsFurtherText rule o w (DeleteAll name key) T U = IsMadeUnder rule o T w (Delete name key) U
IsFurtherText rule o w (SetAll name key values) T U = HasValuesText rule o w name key values T U
IsFurtherText rule o w (AddSection name) T U = HasSectionText rule.case o w name T U
IsFurtherText rule o w (CommentOut name key) T U = IsCommentedText rule o name key T U
IsFurtherText rule o w (Uncomment name key) T U = IsUncommentedText rule o name key T U

-- what the edit is about isn't in the text
abbrev pub HasNothingFurther : Lookup → ParseOption → FurtherEditing → Text → Type 0
HasNothingFurther rule o (DeleteAll name key) T = HasNothingUnder rule o T (Delete name key)
HasNothingFurther rule o (SetAll name key values) T = ⊥
HasNothingFurther rule o (AddSection name) T = ⊥
HasNothingFurther rule o (CommentOut name key) T = LacksUnder rule o T name key
HasNothingFurther rule o (Uncomment name key) T = FindsComment o rule.case key name T None

-- what it is refused with
abbrev pub RefusesFurtherText : Lookup → ParseOption → WriteOption → FurtherEditing → Text → EditError
    → Type 0
RefusesFurtherText rule o w (DeleteAll name key) T e = RefusesMadeUnder rule o T w (Delete name key) e
RefusesFurtherText rule o w (SetAll name key values) T e =
    RefusesInText o T (RefusesValues rule w name key values) e
RefusesFurtherText rule o w (AddSection name) T e = RefusesInText o T (RefusesSection w name) e
RefusesFurtherText rule o w (CommentOut name key) T e =
    RefusesInText o T (RefusesToCommentOutUnder rule name key) e
RefusesFurtherText rule o w (Uncomment name key) T e = RefusesToUncomment rule o name key T e

-- the bytes are the mark, and after it, in UTF-8, the text T with the edit made in it, written as the options
-- say
pub record IsFurtherChanged (rule : Lookup) (o : Options) (separator : Option Word) (e : FurtherEditing)
    (byte_order_mark : List ℕ) (T : Text) (bytes : List ℕ) : Type 0 where
  pub option : WriteOption
  pub is_option : IsWriting o separator option
  pub new : List ℕ
  pub whole : bytes ≡ byte_order_mark ++ new
  pub is_utf8 : IsUtf8 new
  pub is_made : IsFurtherText rule o.reading option e T (chars new)
  -- a file that has no mark gets none, which reading would drop
  pub gets_none : byte_order_mark ≡ [] → has_byte_order_mark new ≡ false

-- the file has no mark, and with the edit made in its text T it would get one
pub record GetsMarkFurther (rule : Lookup) (o : Options) (separator : Option Word) (e : FurtherEditing)
    (byte_order_mark : List ℕ) (T : Text) : Type 0 where
  pub option : WriteOption
  pub is_option : IsWriting o separator option
  pub new : List ℕ
  pub is_utf8 : IsUtf8 new
  pub is_made : IsFurtherText rule o.reading option e T (chars new)
  pub has_none : byte_order_mark ≡ []
  pub gets : has_byte_order_mark new ≡ true

-- the edit of the text T is refused where it is written as the options say
pub record IsFurtherRefused (rule : Lookup) (o : Options) (separator : Option Word) (e : FurtherEditing)
    (T : Text) (refused : EditError) : Type 0 where
  pub option : WriteOption
  pub is_option : IsWriting o separator option
  pub is_refused : RefusesFurtherText rule o.reading option e T refused

-- what it is refused with after this mark: memory may be refused to each; and as a key that isn't read back
-- that the file would get a mark
abbrev pub RefusesFurther : Lookup → Options → Option Word → FurtherEditing → List ℕ → Text → EditError
    → Type 0
RefusesFurther rule o separator e byte_order_mark T (TextError (Memory _)) = ⊤
RefusesFurther rule o separator e byte_order_mark T Key =
    IsFurtherRefused rule o separator e T Key ⊎ GetsMarkFurther rule o separator e byte_order_mark T
RefusesFurther rule o separator e byte_order_mark T refused =
    IsFurtherRefused rule o separator e T refused
