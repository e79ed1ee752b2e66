-- Each trap in a small text, and the nearest text without it.
use Rattle.std.proofs.Common.{◌≡◌, refl, true, false, [], ◌∷◌, ◌++◌}
use Rattle.std.specs.Prelude.{None, Some, codes}
use Rattle.ini_text.specs.Grammar.CharacterKinds.{equals}
use Rattle.ini_text.specs.Options.ReadOptions.{default_parse_option, with_raw_backslashes, without_escapes}
use Rattle.ini_text.specs.declared.option.LoneLine.TheVariants.{Key}
use Rattle.ini_text.specs.declared.option.ParseOption.{ParseOption}
use Rattle.ini_check.specs.Mends.Characters.{with_value_escapes_doubled}
use Rattle.ini_check.specs.Mends.Elements.{mended_pair}
use Rattle.ini_check.specs.Traps.Keys.{comment_runs_on, has_escape, has_key_escape, has_line_end, is_empty}
use Rattle.ini_check.specs.Traps.Keys.{lower, mark_begins_key, has_equals, has_value_escape, runs_on}
use Rattle.ini_check.specs.Traps.LostLines.{drops_line}
use Rattle.ini_check.specs.Traps.Values.{has_comment_mark, has_odd_space}
use Rattle.ini_check.specs.Warnings.{comment_warnings, inner_warnings, known_nothing, pair_warnings, warning}
use Rattle.ini_check.specs.declared.lexical.LexicalState.TheVariants.{Front}
use Rattle.ini_check.specs.declared.warning.Trap.TheVariants.{HalfQuote, HeaderInValue, JoinedLine, LoneCr}
use Rattle.ini_check.specs.declared.warning.Trap.TheVariants.{MarkBeginsKey}
use Rattle.ini_check.specs.declared.warning.Trap.TheVariants.{PairInValue, TextAfterQuote, UnclosedQuote}

abbrev without_quotes : ParseOption
without_quotes = record default_parse_option { enabled_quote = false }

abbrev with_lone_keys : ParseOption
with_lone_keys = record default_parse_option { line_without_separator = Key }

abbrev with_indented_comments : ParseOption
with_indented_comments = record default_parse_option { enabled_indented_comment = true }

bracket : has_line_end (codes "[server\nport=80\n[client]") ≡ true
bracket = refl

bracket-closed : has_line_end (codes "[server]") ≡ false
bracket-closed = refl

quote : inner_warnings default_parse_option false Front [] (codes "'tis\nb = dogs'")
    ≡ warning [] (codes "'") UnclosedQuote ∷ []
quote = refl

quote-closed : inner_warnings default_parse_option false Front [] (codes "'tis'") ≡ []
quote-closed = refl

quotes-off : inner_warnings without_quotes false Front [] (codes "'tis") ≡ []
quotes-off = refl

joined : inner_warnings default_parse_option false Front [] (codes "C:\\\nq=1")
    ≡ warning (codes "C:") (codes "\\") JoinedLine ∷ []
joined = refl

joined-escapes_off : inner_warnings without_escapes false Front [] (codes "C:\\\nq=1")
    ≡ warning (codes "C:") (codes "\\") JoinedLine ∷ []
joined-escapes_off = refl

joined-raw : inner_warnings with_raw_backslashes false Front [] (codes "C:\\\n  q 1") ≡ []
joined-raw = refl

joined-not : inner_warnings default_parse_option false Front [] (codes "C:\\\\") ≡ []
joined-not = refl

key-runs : runs_on (codes "one\ntwo ") ≡ true
key-runs = refl

key-runs-not : runs_on (codes "two ") ≡ false
key-runs-not = refl

key-joined : runs_on (codes "one\\\ntwo") ≡ true
key-joined = refl

comment-runs : comment_runs_on (codes "  ; note\nk ") ≡ true
comment-runs = refl

comment-key : mark_begins_key (codes "  #k ") ≡ true
comment-key = refl

comment-key-not : mark_begins_key (codes "  k# ") ≡ false
comment-key-not = refl

dropped : drops_line (codes "  port 80") ≡ true
dropped = refl

dropped-comment : drops_line (codes "  ; port 80\n") ≡ false
dropped-comment = refl

dropped-blanks : drops_line (codes "  ") ≡ false
dropped-blanks = refl

carriage_return-alone : comment_warnings [] (codes "; c\rk=v")
    ≡ warning (codes "; c") (codes "\r") LoneCr ∷ []
carriage_return-alone = refl

carriage_return-and-lf : comment_warnings [] (codes "; c\r\n") ≡ []
carriage_return-and-lf = refl

pair_goes_on : inner_warnings default_parse_option false Front [] (codes "v\n  port = 80")
    ≡ warning (codes "v\n  ") (codes "p") PairInValue ∷ []
pair_goes_on = refl

text_goes_on : inner_warnings default_parse_option false Front [] (codes "v\n  port 80") ≡ []
text_goes_on = refl

list_goes_on : inner_warnings default_parse_option true Front [] (codes "\n  port = 80") ≡ []
list_goes_on = refl

header_goes_on : inner_warnings default_parse_option false Front [] (codes "v\n  [b]")
    ≡ warning (codes "v\n  ") (codes "[") HeaderInValue ∷ []
header_goes_on = refl

brackets_go_on : inner_warnings default_parse_option false Front [] (codes "v\n  [b], c") ≡ []
brackets_go_on = refl

cased : lower (codes "Port") ≡ codes "port"
cased = refl

name_is_empty : is_empty [] ≡ true
name_is_empty = refl

equals_after_colon : has_equals default_parse_option true false (codes "30 = job") ≡ true
equals_after_colon = refl

equals_in_word : has_equals default_parse_option false false (codes "FOO=bar run") ≡ false
equals_in_word = refl

escape : has_escape true false (codes "C:\\temp") ≡ true
escape = refl

escape-doubled : has_escape true false (codes "C:\\\\temp") ≡ false
escape-doubled = refl

escapes-off : has_escape false false (codes "C:\\temp") ≡ false
escapes-off = refl

bracket-meant : has_escape true true (codes "[a\\]b]") ≡ false
bracket-meant = refl

key_escape : has_key_escape true (codes "a\\tb ") ≡ true
key_escape = refl

key_escape-in-comment : has_key_escape true (codes "  ; C:\\temp") ≡ false
key_escape-in-comment = refl

mark : has_comment_mark default_parse_option (codes "v ; note") ≡ true
mark = refl

mark-first : has_comment_mark default_parse_option (codes "# note") ≡ true
mark-first = refl

mark-in-quotes : has_comment_mark default_parse_option (codes "\"a ; b\"") ≡ false
mark-in-quotes = refl

mark-in-word : has_comment_mark default_parse_option (codes "#fff;a") ≡ false
mark-in-word = refl

text_after : inner_warnings default_parse_option false Front [] (codes "\"a\"b")
    ≡ warning (codes "\"a\"") (codes "b") TextAfterQuote ∷ []
text_after = refl

text_after-kept : inner_warnings without_escapes false Front [] (codes "\"a\\\"b\"") ≡ []
text_after-kept = refl

text_after-raw : inner_warnings with_raw_backslashes false Front [] (codes "\"a\\\"b\"")
    ≡ warning (codes "\"a\\\"") (codes "b") TextAfterQuote ∷ []
text_after-raw = refl

quote-raw : inner_warnings with_raw_backslashes false Front [] (codes "'C:\\'") ≡ []
quote-raw = refl

note_after : inner_warnings default_parse_option false Front [] (codes "\"a\" ; b") ≡ []
note_after = refl

half : inner_warnings default_parse_option false Front [] (codes "a\"") ≡ warning [] (codes "a") HalfQuote ∷ []
half = refl

half-kept : inner_warnings without_escapes false Front [] (codes "a\\\"") ≡ []
half-kept = refl

half-raw : inner_warnings with_raw_backslashes false Front [] (codes "a\\\"")
    ≡ warning [] (codes "a") HalfQuote ∷ []
half-raw = refl

apostrophe : inner_warnings default_parse_option false Front [] (codes "don't") ≡ []
apostrophe = refl

odd : has_odd_space default_parse_option (0xA0 ∷ codes "v") ≡ true
odd = refl

odd-not : has_odd_space default_parse_option (codes " \tv ") ≡ false
odd-not = refl

-- an indented comment among a value's lines
mark-noted : has_comment_mark with_indented_comments (codes "a\n ; c ; d\n b") ≡ false
mark-noted = refl

mark-unnoted : has_comment_mark default_parse_option (codes "a\n ; c\n b") ≡ true
mark-unnoted = refl

mark-after-note : has_comment_mark with_indented_comments (codes "a\n ; c\n b ; d") ≡ true
mark-after-note = refl

noted : inner_warnings with_indented_comments false Front [] (codes "a\n ; 'tis C:\\\n b") ≡ []
noted = refl

unnoted : inner_warnings default_parse_option false Front [] (codes "a\n ; C:\\\n b")
    ≡ warning (codes "a\n ; C:") (codes "\\") JoinedLine ∷ []
unnoted = refl

header-after-note : inner_warnings with_indented_comments false Front [] (codes "a\n ; c\\\n [b]")
    ≡ warning (codes "a\n ; c\\\n ") (codes "[") HeaderInValue ∷ []
header-after-note = refl

escape-noted : has_value_escape with_indented_comments (codes "a\n ; C:\\temp\n b") ≡ false
escape-noted = refl

escape-unnoted : has_value_escape default_parse_option (codes "a\n ; C:\\temp\n b") ≡ true
escape-unnoted = refl

escape-after-note : has_value_escape with_indented_comments (codes "a\n ; c\\\n C:\\temp") ≡ true
escape-after-note = refl

odd-before-note : has_odd_space with_indented_comments (codes "v" ++ 0xA0 ∷ codes "\n ; c") ≡ true
odd-before-note = refl

odd-noted : has_odd_space with_indented_comments (codes "v\n ; c" ++ 0xA0 ∷ codes "\n") ≡ false
odd-noted = refl

doubled-noted : with_value_escapes_doubled with_indented_comments Front (codes "C:\\temp\n ; C:\\temp")
    ≡ codes "C:\\\\temp\n ; C:\\temp"
doubled-noted = refl

-- a key alone
lone : pair_warnings with_lone_keys [] known_nothing (codes "skip-x") None [] true ≡ []
lone = refl

lone-indented : pair_warnings with_lone_keys (codes "k\n") known_nothing (codes "  w") None [] true ≡ []
lone-indented = refl

lone-marked : pair_warnings with_lone_keys [] known_nothing (codes "  ; c") None [] true
    ≡ warning [] (codes "  ; c") MarkBeginsKey ∷ []
lone-marked = refl

lone-mended : mended_pair with_lone_keys MarkBeginsKey (codes "  ; c") None [] ≡ codes "; c"
lone-mended = refl

empty-mended : mended_pair with_lone_keys MarkBeginsKey (codes "  ; c") (Some equals) [] ≡ codes "; c="
empty-mended = refl
