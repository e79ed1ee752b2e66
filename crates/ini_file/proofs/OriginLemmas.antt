-- A pair after its place, put together part by part.
use Rattle.std.proofs.Common.{◌≡◌, ℕ, List, [], ◌∷◌, ◌++◌, Option, append_assoc, refl}
use Rattle.std.proofs.lemmas.Str.{chars-nil}
use Rattle.std.specs.Prelude.{codes}
use Rattle.std.specs.Str.{chars}
use Rattle.ini.proofs.WritingLemmas.{chars-close_bracket, chars-open_bracket}
use Rattle.ini.specs.Texts.{Text}
use Rattle.ini_words.specs.Lines.{between_in, end_in, listed_name, listed_pair, text_in}
use Rattle.ini_words.specs.declared.lines.form.Form.{Form}
use Rattle.ini_words.specs.declared.lines.form.Form.TheVariants.{AsIs, Escaped, Null}

pub nothing-in : (form : Form) → text_in form [] ≡ []
nothing-in Escaped = refl
nothing-in AsIs = refl
nothing-in Null = refl

pub chars-nul : chars (codes "\0") ≡ codes "\0"
unfolding chars
chars-nul = refl

pub chars-tab : chars (codes "\t") ≡ codes "\t"
unfolding chars
chars-tab = refl

pub chars-line_feed : chars (codes "\n") ≡ codes "\n"
unfolding chars
chars-line_feed = refl

module _ (form : Form) (shown : Option Text) (place left name right between end : List ℕ)
    (is_shown : chars left ++ (text_in form (chars name) ++ chars right) ≡ listed_name form shown)
    (is_between : chars between ≡ between_in form ∷ []) (is_end : chars end ≡ end_in form ∷ []) where
  pub of-placed : (key value : List ℕ) → (text_in form (chars []) ++ chars place)
      ++ ((text_in form (chars []) ++ chars left) ++ ((text_in form (chars name) ++ chars right)
      ++ ((text_in form (chars []) ++ chars between) ++ ((text_in form (chars key) ++ chars between)
      ++ ((text_in form (chars value) ++ chars end) ++ [])))))
      ≡ chars place ++ listed_pair form shown (chars key, chars value)
  of-placed key value =
      rw (← is_shown, chars-nil, nothing-in form, is_between, is_end) (simp append_assoc refl)
