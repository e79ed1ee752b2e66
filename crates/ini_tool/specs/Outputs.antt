-- What a request asks to be written of a document.
use Rattle.std.specs.Prelude.{Option, Some}
use Rattle.std.specs.Option.{option_map}
use Rattle.ini_text.specs.declared.write.option.WriteOption.{WriteOption}
use Rattle.ini.specs.Texts.{Text}
use Rattle.ini.specs.Documents.{Document, value_in}
use Rattle.ini.specs.Edits.{delete_in, set_in}
use Rattle.ini.specs.Written.{written}
use Rattle.ini_words.specs.Lines.{entry, listed_pairs}
use Rattle.ini_words.specs.declared.lines.form.Form.TheVariants.{Escaped, AsIs}
use Rattle.ini_tool.specs.Requests.{Request, Fmt, Listing, Get, Set, Del}

-- what the request writes of a document; no text where the pair that it asks for isn't there
abbrev pub output : WriteOption → Request → Document → Option Text
output w Fmt d = Some (written d w)
output w Listing d = Some (listed_pairs Escaped d)
output w (Get key section) d = option_map (entry AsIs) (value_in section key d)
output w (Set key value section) d = Some (written (set_in section key value d) w)
output w (Del key section) d = option_map (λ _. written (delete_in section key d) w) (value_in section key d)
