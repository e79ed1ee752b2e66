-- A pair of a multiline value with other lines after its value's own.
use Rattle.std.proofs.Common.{◌≡◌, ◌≢◌, ℕ, true, [], ◌∷◌, ◌++◌, refl}
use Rattle.ini_text.specs.Grammar.Places.{Stretches, TrailingLines}
use Rattle.ini_text.specs.declared.option.ParseOption.{ParseOption}
use Rattle.ini.specs.Texts.{Text}
use Rattle.ini_edit.specs.Inside.Spans.{IsPair}
use Rattle.ini_edit.proofs.PairViewLemmas.{lone_parts}
use Rattle.ini_edit.proofs.ReadAsLemmas.{pair_lined}
use Rattle.ini_edit.proofs.SectionTakenLemmas.{with_trailing}

some_follows : (n t r : Text) → t ≢ [] → (d : ℕ) × (y : Text) × (n ++ (t ++ r) ≡ d ∷ y)
some_follows [] [] r some = absurd (some refl)
some_follows [] (d ∷ t) r some = (d, t ++ r, refl)
some_follows (m ∷ n) t r some = (m, n ++ (t ++ r), refl)

module _ {o : ParseOption} (on : o.enabled_indented_mutiline_value ≡ true) where
  -- it gives what it gave
  pub pair_retailed : {c : ℕ} {p : Stretches} {key value r t x : Text} → p.trailing_lines ≢ []
      → IsPair o c p key value r → TrailingLines o t x → IsPair o c (with_trailing t p) key value x
  pair_retailed some (IsPair.is_lone h) tail = absurd (some (lone_parts h.lone).trailing_lines)
  pair_retailed {p = p} {r = r} some (IsPair.has_value h) tail =
      let follows = some_follows p.note p.trailing_lines r some in
      IsPair.has_value (pair_lined h follows.2 tail)
