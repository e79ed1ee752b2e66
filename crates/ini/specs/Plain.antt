-- Plain documents: those that, written by some options, are read back by others just as they were.
use Rattle.std.specs.Prelude.{◌≡◌, ◌∷◌, None, IsSomeAnd, All, chars}
use Rattle.ini_text.specs.Laws.Plain.{IsPlainName, IsPlainPair, IsPlainSeparator}
use Rattle.ini_text.specs.declared.option.ParseOption.{ParseOption}
use Rattle.ini_text.specs.declared.write.option.WriteOption.{WriteOption}
use Rattle.ini.specs.Properties.{Pairs}
use Rattle.ini.specs.Documents.{Document}

-- a document, as these options write and read it
pub record IsPlain (d : Document) (w : WriteOption) (o : ParseOption) : Type 0 where
  -- one general section stands at the front
  pub general : Pairs
  pub named : Document
  pub sections : d ≡ (None, general) ∷ named
  -- each section after it has a name, and the name is plain
  pub names : All (λ s. IsSomeAnd s.0 (λ name. IsPlainName o w.escape_policy name)) named
  -- what stands between keys and values is = or : with only spaces and tabs around it
  pub separator : IsPlainSeparator (chars w.kv_separator.now)
  -- each pair of each section is plain
  pub pairs : All (λ s. All (λ p. IsPlainPair o w.escape_policy p.0 p.1) s.1) d
