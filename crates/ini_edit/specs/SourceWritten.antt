-- How a value, and a new pair, are written in a text in pieces.
use Rattle.std.specs.Prelude.{◌≡◌, ◌≢◌, ◌&&◌, Bool, true, false, if◌then◌else◌, ℕ, List, [], ◌∷◌, ◌++◌}
use Rattle.std.specs.Prelude.{Option, None, Some, chars, codes}
use Rattle.std.specs.Option.{option_or, unwrap_or}
use Rattle.ini_text.specs.Escaping.EscapedTexts.{escaped}
use Rattle.ini_text.specs.Grammar.CharacterKinds.{double_quote, equals, line_feed, single_quote}
use Rattle.ini_text.specs.Grammar.Places.{ArePlaced, Stretches}
use Rattle.ini_text.specs.Grammar.Positions.{starts_line}
use Rattle.ini_text.specs.Grammar.Strings.{noted_key_ends}
use Rattle.ini_text.specs.Laws.Plain.{IsPlainKey, IsPlainSeparator, IsReadBack, has_bare_note}
use Rattle.ini_text.specs.Parsing.Fronts.{front_of}
use Rattle.ini_text.specs.declared.option.ParseOption.{ParseOption}
use Rattle.ini_text.specs.declared.write.option.WriteOption.{WriteOption}
use Rattle.ini_text.specs.declared.write.policy.EscapePolicy.{EscapePolicy}
use Rattle.ini.specs.Texts.{Text}
use Rattle.ini_edit.specs.Quotes.{KeepsQuote, quote_before, written_in}
use Rattle.ini_edit.specs.SourceLines.{after_blanks, blanks_at_end}
use Rattle.ini_edit.specs.Sources.{PairPiece, SectionPiece, has_separator, pair_text, section_text}
use Rattle.ini_edit.specs.declared.error.EditError.{EditError}
use Rattle.ini_edit.specs.declared.error.EditError.TheVariants.{Key, Separator, Text as TextError, Value}
use Rattle.ini_text.specs.declared.error.Error.TheVariants.{Memory}
use Rattle.std.specs.Prelude.{⊤}

-- the key of a line by which a value is tried, and that line with this source of the value
abbrev pub tried_key : Text
tried_key = codes "k"

abbrev pub tried_line : (source trailing_lines : Text) → Stretches
tried_line source trailing_lines = record {
  key = tried_key;
  separator = Some equals;
  space_before = [];
  raw_value = source;
  space_after = [];
  note = [];
  trailing_lines = trailing_lines;
}

-- A value that is written so, alone in a line, is read as the value, and all that is written is its own.
-- Where values are multiline the line end is taken too.
pub record IsReadAs (o : ParseOption) (source value : Text) : Type 0 where
  pub trailing_lines : Text
  pub rest : Text
  pub line_end : trailing_lines ++ rest ≡ line_feed ∷ []
  pub placed : ArePlaced o [] (tried_line source trailing_lines) rest tried_key value

-- the forms of a value: in this quote, bare, in double quotes, in single quotes
abbrev pub value_forms : EscapePolicy → (quote value : Text) → List Text
value_forms policy quote value =
    written_in policy quote value ∷ written_in policy [] value
    ∷ written_in policy (double_quote ∷ []) value
    ∷ written_in policy (single_quote ∷ []) value ∷ []

-- the first of the forms that is read as the value
pub data IsFirstReadAs (o : ParseOption) (value : Text) : List Text → Text → Type 0 where
  here : {form : Text} {forms : List Text} → IsReadAs o form value
      → IsFirstReadAs o value (form ∷ forms) form
  later : {form source : Text} {forms : List Text} → ¬ IsReadAs o form value
      → IsFirstReadAs o value forms source → IsFirstReadAs o value (form ∷ forms) source

-- a value has a form that is read as it
pub record HasForm (o : ParseOption) (policy : EscapePolicy) (value : Text) : Type 0 where
  pub source : Text
  pub is_first : IsFirstReadAs o value (value_forms policy [] value) source

-- What stands in the place of an old value's source, once the value is set: that source, where it gives the
-- value already; else the first form that is read as it, of which the quote that the old value stands in
-- comes first, or double marks for an empty value before the note.
pub data IsWrittenInPlace (o : ParseOption) (policy : EscapePolicy) (raw_value note old value : Text)
    : Text → Type 0 where
  stays : value ≡ old → IsWrittenInPlace o policy raw_value note old value raw_value
  written : {quote source : Text} → value ≢ old → KeepsQuote o raw_value value quote
      → IsFirstReadAs o value (value_forms policy (quote_before o note quote value) value) source
      → IsWrittenInPlace o policy raw_value note old value source

-- what indents a new pair, and its separator between blanks
pub record Style : Type 0 where
  pub indent : Text
  pub pad : Text
  pub separator : ℕ
  pub space_before : Text

abbrev pub first_or : ℕ → Text → ℕ
first_or d [] = d
first_or d (c ∷ cs) = c

abbrev pub rest_of : Text → Text
rest_of [] = []
rest_of (c ∷ cs) = cs

-- those of a pair; where keys keep the blanks that indent them, none indent a new one
abbrev pub style_like : ParseOption → PairPiece → Style
style_like o p = record {
  indent = if o.enabled_preserve_key_leading_whitespace then []
      else front_of p.stretches.key (after_blanks p.stretches.key);
  pad = blanks_at_end p.stretches.key;
  separator = unwrap_or p.stretches.separator equals;
  space_before = front_of p.stretches.space_before (after_blanks p.stretches.space_before);
}

-- those of the options
abbrev pub option_style : Text → Style
option_style separator = record {
  indent = [];
  pad = front_of separator (after_blanks separator);
  separator = first_or equals (after_blanks separator);
  space_before = rest_of (after_blanks separator);
}

-- the last of the pairs after a text that begins a line and has a separator, and the last one of sections
abbrev pub last_that_begins : Text → List PairPiece → Option PairPiece
last_that_begins front [] = None
last_that_begins front (p ∷ ps) =
    option_or (last_that_begins (front ++ pair_text p) ps)
    (if starts_line front && has_separator p then Some p else None)

abbrev pub last_that_begins_in : Text → List SectionPiece → Option PairPiece
last_that_begins_in front [] = None
last_that_begins_in front (s ∷ ss) =
    option_or (last_that_begins_in (front ++ section_text s) ss)
    (last_that_begins (front ++ (s.header ++ s.after)) s.pairs)

abbrev pub style_or : ParseOption → Style → Option PairPiece → Style
style_or o style None = style
style_or o style (Some p) = style_like o p

-- The style of a new pair: that of the last pair that begins a line, of those before it in its section,
-- which follow the front; else of the whole text; else of the options.
abbrev pub new_style : ParseOption → WriteOption → (front : Text) → List PairPiece → List SectionPiece
    → Style
new_style o w front before ss =
    style_or o (option_style (chars w.kv_separator.now))
    (option_or (last_that_begins front before) (last_that_begins_in [] ss))

-- A new pair in this style, indented or not, of this source of its value; where values are in one line, the
-- lines after it and the gap are its gap together.
abbrev pub new_pair : ParseOption → EscapePolicy → Style → (indented : Bool)
    → (key value source lines gap : Text)
    → PairPiece
new_pair o policy style indented key value source lines gap = record {
  stretches = record {
    key = (if indented then style.indent else []) ++ (escaped policy key ++ style.pad);
    separator = Some style.separator;
    space_before = style.space_before;
    raw_value = source;
    space_after = [];
    note = [];
    trailing_lines = if o.enabled_indented_mutiline_value then lines else [];
  };
  key = key;
  value = value;
  after = if o.enabled_indented_mutiline_value then gap else lines ++ gap;
}

module _ (o : ParseOption) (w : WriteOption) where
  -- a new pair can be written
  pub record IsWritableNew (key value : Text) : Type 0 where
    pub plain_separator : IsPlainSeparator (chars w.kv_separator.now)
    pub has_form : HasForm o w.escape_policy value
    pub plain_key : IsPlainKey o w.escape_policy key
    pub key_no_note : (noted_key_ends o).notes ≡ true → has_bare_note w.escape_policy key ≡ false
    pub key_read_back : IsReadBack o w.escape_policy key

  -- what a new pair is refused with for its words: the separator's fault first, then the value's, then the
  -- key's
  abbrev pub RefusesNew : Text → Text → EditError → Type 0
  RefusesNew key value Separator = ¬ IsPlainSeparator (chars w.kv_separator.now)
  RefusesNew key value Value =
      IsPlainSeparator (chars w.kv_separator.now) × (¬ HasForm o w.escape_policy value)
  RefusesNew key value Key = IsPlainSeparator (chars w.kv_separator.now)
      × (HasForm o w.escape_policy value × (¬ IsWritableNew key value))
  RefusesNew key value (TextError (Memory _)) = ⊤
  RefusesNew key value _ = ⊥
