-- The warnings of a text, one element after another.
use Rattle.std.specs.Prelude.{◌≡◌, ◌↔◌, ◌&&◌, ◌||◌, ◌∷◌, ◌++◌, Bool, true, false, not, List, [], IsTrue}
use Rattle.std.specs.Prelude.{chars, if◌then◌else◌, ℕ, Option, None, Some}
use Rattle.ini_text.specs.Grammar.Places as grammar
use Rattle.ini_text.specs.Grammar.Positions.{column_of, line_of}
use Rattle.ini_text.specs.Laws.Plain.{IsPlainName, IsPlainPair}
use Rattle.ini_text.specs.Parsing.Items.{cow_text}
use Rattle.ini_text.specs.Parsing.Places.{StandsBetween, stretches_of}
use Rattle.ini_text.specs.declared.option.ParseOption.{ParseOption}
use Rattle.ini_text.specs.declared.parser.placed.Content.{Content}
use Rattle.ini_text.specs.declared.parser.placed.Content.TheVariants as contents
use Rattle.ini_text.specs.declared.parser.placed.PlacedElement.{PlacedElement}
use Rattle.ini_text.specs.declared.parser.placed.PlacedPair.{PlacedPair}
use Rattle.ini_text.specs.declared.write.policy.EscapePolicy.TheVariants.{Basics}
use Rattle.ini.specs.Texts.{Text, is_text}
use Rattle.ini.specs.Properties.{Pairs}
use Rattle.ini_check.specs.Traps.Keys.{begins_like_comment, colon_separates, comment_runs_on, has_escape}
use Rattle.ini_check.specs.Traps.Keys.{has_key_escape, has_value_escape, is_unplain}
use Rattle.ini_check.specs.Traps.Keys.{has_line_end, is_empty, is_repeated, lower, mark_begins_key, runs_on}
use Rattle.ini_check.specs.Traps.LexicalStates.{next_state}
use Rattle.ini_check.specs.Traps.Lines.{goes_on_with_header, goes_on_with_pair, is_list, joins_lines}
use Rattle.ini_check.specs.Traps.LostLines.{begins_with_mark, drops_line, swallows_line}
use Rattle.ini_check.specs.Traps.Quotes.{is_half_quoted, is_text_after_quote, opens_unclosed}
use Rattle.ini_check.specs.Traps.Values.{first_line, has_comment_mark, has_odd_space, space_of, value_of}
use Rattle.ini_check.specs.declared.lexical.LexicalState.{LexicalState}
use Rattle.ini_check.specs.declared.lexical.LexicalState.TheVariants.{Front}
use Rattle.ini_check.specs.declared.seen.Known.{Known}
use Rattle.ini_check.specs.declared.seen.Seen.{Seen}
use Rattle.ini_check.specs.declared.warning.Trap.{Trap}
use Rattle.ini_check.specs.declared.warning.Trap.TheVariants as traps
use Rattle.ini_check.specs.declared.warning.Warning.{Warning}

-- a warning of the stretch s after the front b
abbrev pub warning : Text → Text → Trap → Warning
warning b s trap = record {
  line = line_of b;
  column = column_of b;
  end_line = line_of (b ++ s);
  end_column = column_of (b ++ s);
  trap = trap;
}

-- where there is the trap, the warning of it
abbrev pub warned : Text → Text → Bool → Trap → List Warning
warned b s there trap = if there then warning b s trap ∷ [] else []

-- the same of several traps, in order
abbrev pub warned_all : Text → Text → List (Bool × Trap) → List Warning
warned_all b s [] = []
warned_all b s (found ∷ more) = warned b s found.0 found.1 ++ warned_all b s more

-- the traps of a pair's key; `escapes` says whether escapes are read, `plain` whether the pair is plain
abbrev pub key_traps : Bool → Known → Text → Bool → List (Bool × Trap)
key_traps escapes known source plain =
    (known.is_after_header, traps.AfterHeader)
    ∷ (runs_on source, traps.RunsOn)
    ∷ (comment_runs_on source, traps.CommentRunsOn)
    ∷ (mark_begins_key source, traps.MarkBeginsKey)
    ∷ (has_key_escape escapes source, traps.EscapeInKey)
    ∷ (known.is_repeated, traps.RepeatedKey)
    ∷ (known.differs_in_case, traps.KeyCase)
    ∷ (is_unplain escapes plain (begins_like_comment source), traps.NotPlain)
    ∷ []

-- the trap of a pair's separator, before this source
abbrev pub separator_trap : ParseOption → Text → ℕ → Text → Option Trap
separator_trap o key separator source =
    if colon_separates o key separator source then Some traps.ColonSeparates else None

-- the traps of a pair's value as a whole, by what stands after the separator
abbrev pub value_traps : ParseOption → Text → List (Bool × Trap)
value_traps o source =
    (has_value_escape o (value_of source), traps.Escape)
    ∷ (has_comment_mark o (value_of source), traps.MarkInValue)
    ∷ (has_odd_space o source, traps.OddSpace)
    ∷ []

-- the traps of a header
abbrev pub header_traps : Bool → Known → Text → Text → Bool → List (Bool × Trap)
header_traps escapes known source name plain =
    (known.is_after_header, traps.AfterHeader)
    ∷ (has_line_end source, traps.UnclosedBracket)
    ∷ (is_empty name, traps.EmptyName)
    ∷ (has_escape escapes true source, traps.EscapeInName)
    ∷ (known.is_repeated, traps.RepeatedSection)
    ∷ (known.differs_in_case, traps.SectionCase)
    ∷ (is_unplain escapes plain false, traps.NotPlain)
    ∷ []

-- the trap at a place of a raw value: the first that is there; `list` says whether the value is a list
abbrev pub trap_at : ParseOption → Bool → LexicalState → Text → Option Trap
trap_at o list state text =
    if opens_unclosed o state text then Some traps.UnclosedQuote
    else if joins_lines o state text then Some traps.JoinedLine
    else if is_text_after_quote state text then Some traps.TextAfterQuote
    else if is_half_quoted o state text then Some traps.HalfQuote
    else if goes_on_with_header state text then Some traps.HeaderInValue
    else if goes_on_with_pair list state text then Some traps.PairInValue
    else None

abbrev pub warned_of : Text → Text → Option Trap → List Warning
warned_of b s None = []
warned_of b s (Some trap) = warning b s trap ∷ []

-- of the places of a raw value, from one on that stands after the front b
abbrev pub inner_warnings : ParseOption → Bool → LexicalState → Text → Text → List Warning
inner_warnings o list state b [] = []
inner_warnings o list state b (c ∷ cs) =
    warned_of b (c ∷ []) (trap_at o list state (c ∷ cs))
    ++ inner_warnings o list (next_state o state c) (b ++ c ∷ []) cs

-- of a comment, from a character on that stands after the front b: of the first CR that is a trap
abbrev pub comment_warnings : Text → Text → List Warning
comment_warnings b [] = []
comment_warnings b (c ∷ cs) =
    if swallows_line (c ∷ cs) then warning b (c ∷ []) traps.LoneCr ∷ []
    else comment_warnings (b ++ c ∷ []) cs

-- of an element that gives nothing
abbrev pub nothing_warnings : Text → Text → List Warning
nothing_warnings b source =
    if begins_with_mark source then comment_warnings b source
    else warned b source (drops_line source) traps.DroppedLine

-- of a header after the front b
pub record HeaderWarns (o : ParseOption) (b : Text) (known : Known) (source name : Text) (ws : List Warning)
    : Type 0 where
  pub plain : Bool
  pub is_plain : IsTrue plain ↔ IsPlainName o Basics name
  pub warnings : ws ≡ warned_all b source (header_traps o.enabled_escape known source name plain)

-- of a pair's value, which begins after the front b, by what stands after the separator
abbrev pub value_warnings : ParseOption → Text → Text → Text → List Warning
value_warnings o b key source =
    warned_all b (first_line (value_of source)) (value_traps o source)
    ++ inner_warnings o (is_list key (value_of source)) Front b (value_of source)

-- of what stands after a key, after the front b: the separator, and this source after it; a key alone has
-- nothing after it
abbrev pub after_key_warnings : ParseOption → Text → Text → Option ℕ → Text → List Warning
after_key_warnings o b key None source = []
after_key_warnings o b key (Some separator) source =
    warned_of b (separator ∷ []) (separator_trap o key separator source)
    ++ value_warnings o ((b ++ separator ∷ []) ++ space_of source) key source

-- of a pair of this key, separator and source after it, after the front b
abbrev pub pair_warnings : ParseOption → Text → Known → Text → Option ℕ → Text → Bool → List Warning
pair_warnings o b known key separator source plain =
    warned_all b key (key_traps o.enabled_escape known key plain)
    ++ after_key_warnings o (b ++ key) key separator source

-- of a pair
pub record PairWarns (o : ParseOption) (b : Text) (known : Known) (p : PlacedPair) (ws : List Warning)
    : Type 0 where
  pub plain : Bool
  pub is_plain : IsTrue plain ↔ IsPlainPair o Basics (cow_text p.key) (cow_text p.value)
  pub warnings : ws ≡ pair_warnings o b known (chars p.places.key.now) p.places.separator
      (grammar.value_source (stretches_of p.places)) plain

-- of an element of this source
abbrev pub ElementWarns : ParseOption → Text → Known → Text → Content → List Warning → Type 0
ElementWarns o b known source contents.Nothing ws = ws ≡ nothing_warnings b source
ElementWarns o b known source (contents.Header name) ws = HeaderWarns o b known source (cow_text name) ws
ElementWarns o b known source (contents.Pair pair) ws = PairWarns o b known pair ws

-- what is known of a name, or a key, from names before it, and from those that aren't in lower case, in it
abbrev pub known_of : Text → Pairs → Pairs → Bool → Known
known_of text before lower_before after_header = record {
  is_repeated = is_repeated text before;
  differs_in_case =
      not (is_repeated text before)
      && (is_repeated (lower text) before || is_repeated (lower text) lower_before);
  is_after_header = after_header;
}

-- nothing is known
abbrev pub known_nothing : Known
known_nothing = record { is_repeated = false; differs_in_case = false; is_after_header = false }

-- what is known of an element from those before it
abbrev pub known : Seen → Content → Known
known seen contents.Nothing = known_nothing
known seen (contents.Header name) =
    known_of (cow_text name) seen.names seen.lower_names seen.is_on_header_line
known seen (contents.Pair pair) =
    known_of (cow_text pair.key) seen.keys seen.lower_keys seen.is_on_header_line

-- one name more, or one key
abbrev pub and_name : Pairs → Text → Pairs
and_name names name = names ++ (name, []) ∷ []

-- one name more in lower case, if it isn't so
abbrev pub and_lower : Pairs → Text → Pairs
and_lower names name = if is_text (lower name) name then names else and_name names (lower name)

-- nothing is seen yet
abbrev pub seen_none : Seen
seen_none = record {
  names = [];
  lower_names = [];
  keys = [];
  lower_keys = [];
  is_on_header_line = false;
}

-- what is seen after this source, which gives nothing
abbrev pub seen_nothing : Seen → Text → Seen
seen_nothing seen source = record {
  names = seen.names;
  lower_names = seen.lower_names;
  keys = seen.keys;
  lower_keys = seen.lower_keys;
  is_on_header_line = seen.is_on_header_line && not (has_line_end source);
}

-- what is seen after a header of this name
abbrev pub seen_header : Seen → Text → Seen
seen_header seen name = record {
  names = and_name seen.names name;
  lower_names = and_lower seen.lower_names name;
  keys = [];
  lower_keys = [];
  is_on_header_line = true;
}

-- what is seen after a pair of this key
abbrev pub seen_key : Seen → Text → Seen
seen_key seen key = record {
  names = seen.names;
  lower_names = seen.lower_names;
  keys = and_name seen.keys key;
  lower_keys = and_lower seen.lower_keys key;
  is_on_header_line = false;
}

-- what is seen after an element of this source
abbrev pub seen_after : Seen → Text → Content → Seen
seen_after seen source contents.Nothing = seen_nothing seen source
seen_after seen source (contents.Header name) = seen_header seen (cow_text name)
seen_after seen source (contents.Pair pair) = seen_key seen (cow_text pair.key)

-- elements reach the front b of the text T, with what is seen of them, and these warnings
pub data Warns (o : ParseOption) (T : Text) : Text → Seen → List Warning → Type 0 where
  front : Warns o T [] seen_none []
  following : {b c : Text} {seen : Seen} {ws : List Warning} (e : PlacedElement) (more : List Warning)
      → Warns o T b seen ws → StandsBetween o T b c e
      → ElementWarns o b (known seen e.content) (chars e.source.now) e.content more
      → Warns o T c (seen_after seen (chars e.source.now) e.content) (ws ++ more)

-- the warnings are those of the whole text
pub record AreWarningsOf (o : ParseOption) (T : Text) (ws : List Warning) : Type 0 where
  pub seen : Seen
  pub warns : Warns o T T seen ws

-- after a list stand more warnings
pub record Adds (P : List Warning → Type 0) (old new : List Warning) : Type 0 where
  pub more : List Warning
  pub holds : P more
  pub added : new ≡ old ++ more
