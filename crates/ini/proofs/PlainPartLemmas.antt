-- A plain document by its parts: the separator, the general section, and the sections after it.
use Rattle.std.proofs.Common.{◌≡◌, zero, suc, ◌∷◌, None, All, sym, subst, ◌∙◌, arith}
use Rattle.std.specs.Str.{chars}
use Rattle.ini_text.specs.Laws.Plain.{IsPlainSeparator}
use Rattle.ini_text.specs.declared.option.ParseOption.{ParseOption}
use Rattle.ini_text.specs.declared.write.option.WriteOption.{WriteOption}
use Rattle.ini.specs.Documents.{Document}
use Rattle.ini.specs.Plain.{IsPlain}
use Rattle.ini.specs.Inside.PlainSections.{ArePlainPairs, HasPlainName, IsPlainSection}
use Rattle.ini.specs.Properties.{Pairs}

module _ (d : Document) (w : WriteOption) (o : ParseOption) (general : Pairs) (rest : Document)
    (sections : d ≡ (None, general) ∷ rest) where
  pub plain_from_parts : IsPlainSeparator (chars w.kv_separator.now)
      → ArePlainPairs o w.escape_policy general → All (IsPlainSection o w.escape_policy) rest → IsPlain d w o
  plain_from_parts separator first others = record {
    general = general;
    named = rest;
    sections = sections;
    names = λ k x l. (others k x l).name;
    separator = separator;
    pairs = subst (λ e. All (λ s. ArePlainPairs o w.escape_policy s.1) e) (sym sections) all;
  }
    where
      all : All (λ s. ArePlainPairs o w.escape_policy s.1) ((None, general) ∷ rest)
      all zero x l = first
      all (suc k) x l = (others k x (omega arith)).pairs

  each : IsPlain d w o → All (λ s. ArePlainPairs o w.escape_policy s.1) ((None, general) ∷ rest)
  each p = subst (λ e. All (λ s. ArePlainPairs o w.escape_policy s.1) e) sections p.pairs

  pub general_of : IsPlain d w o → ArePlainPairs o w.escape_policy general
  general_of p = each p zero (None, general) (omega arith)

  pub others_of : IsPlain d w o → All (IsPlainSection o w.escape_policy) rest
  others_of p =
      let same : (None, p.general) ∷ p.named ≡ (None, general) ∷ rest = sym p.sections ∙ sections in
      let named : p.named ≡ rest = cc in
      let names : All (λ s. HasPlainName o w.escape_policy s.0) rest =
      subst (λ e. All (λ s. HasPlainName o w.escape_policy s.0) e) named p.names in
      λ k x l. record { name = names k x l; pairs = each p (suc k) x (omega arith) }
