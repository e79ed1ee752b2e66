-- A service's settings, as its text gives them.
use Rattle.std.specs.Prelude.{◌≡◌, ◌<◌, None, Some, chars, codes, unwrap_or}
use Rattle.ini_text.specs.Options.ReadOptions.{default_parse_option}
use Rattle.ini.specs.Texts.{Text, text_of}
use Rattle.ini.specs.Properties.{texts_of}
use Rattle.ini.specs.Documents.{Document, value_in}
use Rattle.ini.specs.EditLaws.{values_in}
use Rattle.ini.specs.Loading.{IsDocumentOf}
use Rattle.ini_examples.specs.declared.service.Service.{Service}

-- the name is that of the general section, or a default; the port is no zero, and 80 where none is given;
-- the servers are all those of the section `[upstream]`, in order
pub record IsServiceOf (T : Text) (s : Service) : Type 0 where
  pub document : Document
  pub loaded : IsDocumentOf default_parse_option T document
  pub name : text_of s.name
      ≡ unwrap_or (value_in None (chars (codes "name")) document) (chars (codes "unnamed"))
  pub port : 0 < s.port
  pub port_by_default : value_in None (chars (codes "port")) document ≡ None → s.port ≡ 80
  pub servers : texts_of s.servers.items
      ≡ values_in (Some (chars (codes "upstream"))) (chars (codes "server")) document
