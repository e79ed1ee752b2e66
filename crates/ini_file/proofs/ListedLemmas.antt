-- Texts and names that are lent, listed as what they stand for.
use Rattle.std.proofs.Common.{◌≡◌, ◌∙◌, ℕ, List, Option, ap, flat_map, map, sym, Bor}
use Rattle.std.proofs.lemmas.List.Folds.{flat_map-map}
use Rattle.ini.specs.Texts.{Text, str_name, str_text}
use Rattle.ini_words.specs.Lines.{entry, lent_name_entry, name_entry, text_entry}
use Rattle.ini_words.specs.declared.lines.form.Form.{Form}

pub entries-of : (form : Form) (texts : List (Bor (List ℕ))) (ts : List Text) → map str_text texts ≡ ts
    → flat_map (text_entry form) texts ≡ flat_map (entry form) ts
entries-of form texts ts e = sym (flat_map-map (entry form) str_text texts) ∙ ap (flat_map (entry form)) e

pub names-of : (form : Form) (names : List (Option (Bor (List ℕ)))) (ns : List (Option Text))
    → map str_name names ≡ ns
    → flat_map (lent_name_entry form) names ≡ flat_map (name_entry form) ns
names-of form names ns e =
    sym (flat_map-map (name_entry form) str_name names) ∙ ap (flat_map (name_entry form)) e

pub ruleset lists = (
  entries-of,
  names-of,
)
