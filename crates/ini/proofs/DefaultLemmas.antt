-- Options that say the same: what is written by them, and what is plain.
use Rattle.std.proofs.Common.{◌≡◌, ◌↔◌, refl, subst, sym, All, IsSomeAnd, List, ℕ}
use Rattle.std.specs.Str.{chars}
use Rattle.ini_text.specs.Laws.Plain.{IsPlainName, IsPlainPair, IsPlainSeparator}
use Rattle.ini_text.specs.Options.WriteOptions.{IsDefaultWriteOption}
use Rattle.ini_text.specs.declared.option.ParseOption.{ParseOption}
use Rattle.ini_text.specs.declared.write.option.WriteOption.{WriteOption}
use Rattle.ini_text.specs.declared.write.policy.EscapePolicy.{EscapePolicy}
use Rattle.ini.specs.DefaultOptions.{default_write_option}
use Rattle.ini.specs.Documents.{Document}
use Rattle.ini.specs.Plain.{IsPlain}
use Rattle.ini.specs.Written.{written}
use Rattle.ini.proofs.WritingLemmas.{same_written}

is_default : IsDefaultWriteOption default_write_option
is_default = record { escape_policy = refl; line_separator = refl; kv_separator = refl }

plain_alike : (d : Document) (o : ParseOption) (v w : WriteOption) → v.escape_policy ≡ w.escape_policy
    → v.kv_separator.now ≡ w.kv_separator.now → IsPlain d v o → IsPlain d w o
plain_alike d o v w policy separator p = record {
  general = p.general;
  named = p.named;
  sections = p.sections;
  names = subst (λ (e : EscapePolicy). All (λ s. IsSomeAnd s.0
      (λ name. IsPlainName o e name)) p.named) policy p.names;
  separator = subst (λ (t : List ℕ). IsPlainSeparator (chars t)) separator p.separator;
  pairs = subst (λ (e : EscapePolicy). All (λ s. All (λ q. IsPlainPair o e q.0 q.1) s.1) d) policy p.pairs;
}

pub default-written : (d : Document) (w : WriteOption) → IsDefaultWriteOption w
    → written d w ≡ written d default_write_option
default-written d w is = same_written d w default_write_option is is_default

pub default-plain : (d : Document) (w : WriteOption) (o : ParseOption) → IsDefaultWriteOption w
    → IsPlain d w o ↔ IsPlain d default_write_option o
default-plain d w o is = (
  plain_alike d o w default_write_option is.escape_policy is.kv_separator,
  plain_alike d o default_write_option w (sym is.escape_policy) (sym is.kv_separator),
)

pub ruleset defaults = (default-written, default-plain)
