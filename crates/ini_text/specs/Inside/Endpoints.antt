-- The endpoints of the code, in the grammar's words.
use Rattle.std.specs.Prelude.{ℕ, Bool}
use Rattle.ini_text.specs.Grammar.CharacterKinds.{backslash, carriage_return, colon, double_quote, equals}
use Rattle.ini_text.specs.Grammar.CharacterKinds.{line_feed, single_quote}
use Rattle.ini_text.specs.Grammar.Strings.{Ends, name_ends, bracketed_name_ends, quote_ends, plain_ends}
use Rattle.ini_text.specs.Grammar.Strings.{noted, noted_key_ends}
use Rattle.ini_text.specs.declared.option.ParseOption.{ParseOption}
use Rattle.ini_text.specs.Inside.Lanes.{is_one_of_five}
use Rattle.ini_text.specs.declared.parser.endpoints.Endpoints.{Endpoints}
use Rattle.ini_text.specs.declared.parser.endpoints.Endpoints.TheVariants as endpoints

abbrev pub ends_of : ParseOption → Endpoints → Ends
ends_of o endpoints.Name = name_ends
ends_of o endpoints.BracketedName = noted o bracketed_name_ends
ends_of o endpoints.Key = noted_key_ends o
ends_of o endpoints.DoubleQuotes = quote_ends double_quote
ends_of o endpoints.SingleQuotes = quote_ends single_quote
ends_of o endpoints.Plain = noted o plain_ends

-- the characters at which a run of a key ends that ends with its line
abbrev pub is_key_mark : ℕ → Bool
is_key_mark c = is_one_of_five backslash equals colon line_feed carriage_return c
