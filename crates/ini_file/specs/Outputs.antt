-- What a question asks to be written of a document.
use Rattle.std.specs.Prelude.{Option, Some}
use Rattle.ini_text.specs.declared.write.option.WriteOption.{WriteOption}
use Rattle.ini.specs.Texts.{Text}
use Rattle.ini.specs.Documents.{Document}
use Rattle.ini.specs.Written.{written}
use Rattle.ini_words.specs.Lines.{listed_pairs}
use Rattle.ini_file.specs.Forms.{got, keys_listed, listing_form, names_listed}
use Rattle.ini_file.specs.Requests.{Asking, Rewrite, Listing, Sections, Keys, Get}

-- what the question writes of a document; no text where the pair or the section that it asks for isn't there
abbrev pub output : WriteOption → Asking → Document → Option Text
output w Rewrite d = Some (written d w)
output w (Listing null) d = Some (listed_pairs (listing_form null) d)
output w (Sections rule null all) d = Some (names_listed rule all (listing_form null) d)
output w (Keys rule null section) d = keys_listed rule (listing_form null) section d
output w (Get rule null all key section default) d = got rule null all key section default d
