-- What a migration makes of a document, and of a text.
use Rattle.std.specs.Prelude.{Some, chars, codes}
use Rattle.ini_text.specs.Options.ReadOptions.{default_parse_option}
use Rattle.ini.specs.Texts.{Text}
use Rattle.ini.specs.Documents.{Document, all_sections_removed}
use Rattle.ini.specs.Edits.{rename_key_in, section_renamed}
use Rattle.ini.specs.Loading.{IsDocumentOf}

-- the section `[database]` is `[db]`, its key `hostname` is `host`, and no section is `[cache]`
abbrev pub migrated : Document → Document
migrated d =
    let db = Some (chars (codes "db")) in
    all_sections_removed (Some (chars (codes "cache")))
    (rename_key_in db (chars (codes "hostname")) (chars (codes "host"))
    (section_renamed (Some (chars (codes "database"))) db d))

-- the text that is given out loads as the migrated document of the text that was given
pub record IsMigration (before after : Text) : Type 0 where
  pub document : Document
  pub loaded : IsDocumentOf default_parse_option before document
  pub loads : IsDocumentOf default_parse_option after (migrated document)
