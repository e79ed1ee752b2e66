-- Sections after the general one that are plain.
use Rattle.std.specs.Prelude.{IsSomeAnd, All, Option}
use Rattle.ini_text.specs.Laws.Plain.{IsPlainName, IsPlainPair}
use Rattle.ini_text.specs.declared.option.ParseOption.{ParseOption}
use Rattle.ini_text.specs.declared.write.policy.EscapePolicy.{EscapePolicy}
use Rattle.ini.specs.Properties.{Pairs}
use Rattle.ini.specs.Texts.{Text}

module _ (o : ParseOption) (policy : EscapePolicy) where
  -- each pair is plain
  abbrev pub ArePlainPairs : Pairs → Type 0
  ArePlainPairs pairs = All (λ p. IsPlainPair o policy p.0 p.1) pairs

  -- there is a name, and it is plain
  abbrev pub HasPlainName : Option Text → Type 0
  HasPlainName name = IsSomeAnd name (λ text. IsPlainName o policy text)

  -- a section with a plain name and plain pairs
  pub record IsPlainSection (s : Option Text × Pairs) : Type 0 where
    pub name : HasPlainName s.0
    pub pairs : ArePlainPairs s.1
