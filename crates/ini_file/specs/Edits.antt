-- What an edit makes of a file's bytes, and what it is refused with, in the words of `ini_edit` and, under
-- a rule that isn't the crate's own, in those of `ini_dialect`.
use Rattle.std.specs.Prelude.{◌≡◌, ◌⊎◌, ◌++◌, ⊤, ℕ, Bool, true, false, List, [], Option, chars}
use Rattle.std.specs.Str.{IsUtf8}
use Rattle.ini_text.specs.Parsing.ByteOrderMarks.{has_byte_order_mark}
use Rattle.ini_text.specs.declared.error.Error.TheVariants.{Memory}
use Rattle.ini_text.specs.declared.option.ParseOption.{ParseOption}
use Rattle.ini_text.specs.declared.write.option.WriteOption.{WriteOption}
use Rattle.ini_text.specs.declared.write.policy.EscapePolicy.{EscapePolicy}
use Rattle.ini.specs.Texts.{Text}
use Rattle.ini_edit.specs.Editings.{Editing}
use Rattle.ini_edit.specs.Made.{HasNothing, HasUnwritableWord}
use Rattle.ini_edit.specs.WholeTexts.{IsMadeText, RefusesOfText}
use Rattle.ini_edit.specs.declared.error.EditError.{EditError}
use Rattle.ini_edit.specs.declared.error.EditError.TheVariants.{Key, Text as TextError}
use Rattle.ini_dialect.specs.Rules.{is_own}
use Rattle.ini_dialect.specs.RuledTexts.{HasNothingUnder, IsMadeUnder, RefusesMadeUnder}
use Rattle.ini_dialect.specs.declared.rule.Lookup.{Lookup}
use Rattle.ini_words.specs.Words.{Word}
use Rattle.ini_words.specs.declared.options.Options.{Options}
use Rattle.ini_file.specs.Writing.{IsWriting}

-- The text U is T with the edit made in it: under the crate's own rule as `make_edit` of `ini_edit` makes it,
-- else as that of the rule does.
abbrev pub IsMadeBy : Bool → Lookup → ParseOption → WriteOption → Editing → (T U : Text) → Type 0
IsMadeBy true rule o w e T U = IsMadeText o w e T U
IsMadeBy false rule o w e T U = IsMadeUnder rule o T w e U

-- what the edit is about isn't in the text
abbrev pub HasNothingBy : Bool → Lookup → ParseOption → Editing → Text → Type 0
HasNothingBy true rule o e T = HasNothing o e T
HasNothingBy false rule o e T = HasNothingUnder rule o T e

-- the edit's words can be written: under the crate's own rule this is known of every edit that isn't refused
abbrev pub HasWritableWords : Bool → ParseOption → EscapePolicy → Editing → Type 0
HasWritableWords true o policy e = ¬ HasUnwritableWord o policy e
HasWritableWords false o policy e = ⊤

-- what it is refused with
abbrev pub RefusesMadeBy : Bool → Lookup → ParseOption → WriteOption → Editing → Text → EditError → Type 0
RefusesMadeBy true rule o w e T refused = RefusesOfText o w e T refused
RefusesMadeBy false rule o w e T refused = RefusesMadeUnder rule o T w e refused

-- the bytes are the mark, and after it, in UTF-8, the text T with the edit made in it, written as the options
-- say
pub record IsChanged (rule : Lookup) (o : Options) (separator : Option Word) (e : Editing)
    (byte_order_mark : List ℕ) (T : Text) (bytes : List ℕ) : Type 0 where
  pub option : WriteOption
  pub is_option : IsWriting o separator option
  pub new : List ℕ
  pub whole : bytes ≡ byte_order_mark ++ new
  pub is_utf8 : IsUtf8 new
  pub is_made : IsMadeBy (is_own rule) rule o.reading option e T (chars new)
  -- a file that has no mark gets none, which reading would drop
  pub gets_none : byte_order_mark ≡ [] → has_byte_order_mark new ≡ false

-- the file has no mark, and with the edit made in its text T it would get one
pub record GetsMark (rule : Lookup) (o : Options) (separator : Option Word) (e : Editing)
    (byte_order_mark : List ℕ) (T : Text) : Type 0 where
  pub option : WriteOption
  pub is_option : IsWriting o separator option
  pub new : List ℕ
  pub is_utf8 : IsUtf8 new
  pub is_made : IsMadeBy (is_own rule) rule o.reading option e T (chars new)
  pub has_none : byte_order_mark ≡ []
  pub gets : has_byte_order_mark new ≡ true

-- the edit of the text T is refused where it is written as the options say
pub record IsEditRefused (rule : Lookup) (o : Options) (separator : Option Word) (e : Editing) (T : Text)
    (refused : EditError) : Type 0 where
  pub option : WriteOption
  pub is_option : IsWriting o separator option
  pub is_refused : RefusesMadeBy (is_own rule) rule o.reading option e T refused

-- what an edit of the text T after this mark is refused with: memory may be refused to each; and as a key
-- that isn't read back that the file would get a mark
abbrev pub RefusesEdit : Lookup → Options → Option Word → Editing → List ℕ → Text → EditError → Type 0
RefusesEdit rule o separator e byte_order_mark T (TextError (Memory _)) = ⊤
RefusesEdit rule o separator e byte_order_mark T Key =
    IsEditRefused rule o separator e T Key ⊎ GetsMark rule o separator e byte_order_mark T
RefusesEdit rule o separator e byte_order_mark T refused = IsEditRefused rule o separator e T refused
