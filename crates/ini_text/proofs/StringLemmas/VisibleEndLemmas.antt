-- A text whose ends are seen to be no white space.
use Rattle.std.proofs.Common.{◌≡◌, ℕ, suc, ◌<◌, Bool, true, false, cond, List, [], ◌∷◌, ◌++◌, length, take}
use Rattle.std.proofs.Common.{drop, get_or, refl, sym, ap, ◌∙◌, arith, subst, chars, IsUtf8, IsCharBoundary}
use Rattle.std.specs.Char.{is_whitespace}
use Rattle.std.specs.Str.{skip_leading_whitespace}
use Rattle.std.proofs.lemmas.Bool.Decides.{nat_tests}
use Rattle.std.proofs.lemmas.List.{drop_all}
use Rattle.std.proofs.lemmas.Str.{IsCharBoundary-before_ascii, IsUtf8-drop, chars_past_char, encode_ascii}
use Rattle.std.proofs.Math.Seq.{drop-cons}
use Rattle.ini_text.specs.Grammar.CharacterKinds.{BeginsWithNo}
use Rattle.ini_text.specs.Inside.Scans.{is_visible, trimmed_at}
use Rattle.ini_text.specs.Grammar.WhiteSpace.{end_trimmed, trimmed}
use Rattle.ini_text.proofs.StringLemmas.PushLemmas.{one_character}
use Rattle.ini_text.proofs.PlainLemmas.PlainTrimLemmas.{end_trimmed-after, end_trimmed-blanks, skip_none}
use Rattle.ini_text.proofs.StringLemmas.RunLemmas.{split_chars}

visible-low : (c : ℕ) → is_visible c ≡ true → c < 128
visible-low c h = grind (arith, nat_tests)

visible-black : (c : ℕ) → is_visible c ≡ true → is_whitespace c ≡ false
visible-black c h = grind (arith, nat_tests)

one_kept : (c : ℕ) → is_whitespace c ≡ false → end_trimmed (c ∷ []) ≡ c ∷ []
one_kept c h = rw h refl

visible_last : (t : List ℕ) (n c : ℕ) → IsUtf8 t → length t ≡ suc n → get_or t n 0 ≡ c
    → is_visible c ≡ true → end_trimmed (chars t) ≡ chars t
visible_last t n c u long last sees =
    let at : IsCharBoundary t n =
    IsCharBoundary-before_ascii t n (omega arith) (omega (arith, visible-low c sees)) in
    let back : drop n t ≡ get_or t n 0 ∷ drop (suc n) t = drop-cons t n 0 (omega arith) in
    let one : drop n t ≡ c ∷ [] =
    back ∙ ap (λ x. get_or t n 0 ∷ x) (drop_all (suc n) t (omega arith)) ∙ ap (λ x. x ∷ []) last in
    let text : IsUtf8 (c ∷ []) = subst IsUtf8 one (IsUtf8-drop t n u at) in
    let parts : chars t ≡ chars (take n t) ++ c ∷ [] = split_chars t (take n t) (drop n t) n u at refl refl
    ∙ ap (λ x. chars (take n t) ++ x)
    (ap chars one ∙ one_character (c ∷ []) text refl (visible-low c sees)) in
    subst (λ x. end_trimmed x ≡ x) (sym parts)
    (end_trimmed-after (chars (take n t)) (c ∷ []) (λ e. cc) (one_kept c (visible-black c sees)))

visible_first : (t : List ℕ) (c : ℕ) → IsUtf8 t → 0 < length t → get_or t 0 0 ≡ c → is_visible c ≡ true
    → BeginsWithNo is_whitespace (chars t)
visible_first t c u some first sees =
    let front : t ≡ c ∷ drop 1 t = drop-cons t 0 0 some ∙ ap (λ x. x ∷ drop 1 t) first in
    let begins =
    chars_past_char t (drop 1 t) c
    u (front ∙ ap (λ x. x ++ drop 1 t) (sym (encode_ascii c (visible-low c sees)))) in
    subst (BeginsWithNo is_whitespace) (sym begins) (visible-black c sees)

pub visible_ends : (t : List ℕ) (n first last : ℕ) → IsUtf8 t → length t ≡ suc n → get_or t 0 0 ≡ first
    → is_visible first ≡ true → get_or t n 0 ≡ last → is_visible last ≡ true
    → (both : Bool) → trimmed_at both (chars t) ≡ chars t
visible_ends t n first last u long begins sees ends sees' true =
    ap end_trimmed (skip_none (chars t) (visible_first t first u (omega arith) begins sees))
    ∙ visible_last t n last u long ends sees'
visible_ends t n first last u long begins sees ends sees' false = visible_last t n last u long ends sees'

-- a space at the end is trimmed
trimmed-space : (cs : List ℕ) → trimmed (cs ++ 32 ∷ []) ≡ trimmed cs
trimmed-space [] = refl
trimmed-space (c ∷ cs) = at (is_whitespace c) (trimmed-space cs)
  where
    at : (b : Bool) → trimmed (cs ++ 32 ∷ []) ≡ trimmed cs
        → end_trimmed (cond b (skip_leading_whitespace (cs ++ 32 ∷ [])) (c ∷ (cs ++ 32 ∷ [])))
        ≡ end_trimmed (cond b (skip_leading_whitespace cs) (c ∷ cs))
    at true following = following
    at false following = end_trimmed-blanks (c ∷ cs) (32 ∷ []) refl

pub trimmed_at-space : (both : Bool) (cs : List ℕ) → trimmed_at both (cs ++ 32 ∷ []) ≡ trimmed_at both cs
trimmed_at-space true cs = trimmed-space cs
trimmed_at-space false cs = end_trimmed-blanks cs (32 ∷ []) refl
