-- Runs of bytes, as runs of characters.
use Rattle.std.proofs.Common.{◌≡◌, ℕ, suc, ◌+◌, ◌<◌, ◌≤◌, Bool, true, false, not, List, [], ◌∷◌, ◌++◌, length}
use Rattle.std.proofs.Common.{take, drop, refl, sym, ap, ◌∙◌, subst, arith, inl, inr, IsUtf8, IsCharBoundary}
use Rattle.std.proofs.Common.{encode_utf8, encode_utf8_all, chars, take-append-drop, cond, get_or, one-add}
use Rattle.std.proofs.Common.{true≢false}
use Rattle.std.specs.List.{list_all, prefix_len}
use Rattle.std.proofs.lemmas.List.Folds.{list_all-append}
use Rattle.std.proofs.lemmas.List.Sums.{prefix_len-le-length, prefix_len_stops}
use Rattle.std.proofs.lemmas.Bool.{cases_lt, and_parts}
use Rattle.std.proofs.lemmas.Bool.Decides.{nat_tests}
use Rattle.std.proofs.lemmas.Str.{IsCharBoundary-before_ascii, IsCharBoundary-end, encode_ascii}
use Rattle.std.proofs.lemmas.Str.{encodes-chars, IsUtf8-take, IsUtf8-drop, chars-append, chars_past_char}
use Rattle.std.proofs.lemmas.Str.{chars-nil}
use Rattle.std.proofs.Math.Seq.{drop-cons}
use Rattle.std.proofs.lemmas.List.{drop_all}
use Rattle.ini_text.specs.Inside.Scans.{is_raw, skipped}
use Rattle.ini_text.specs.Inside.Endpoints.{ends_of}
use Rattle.ini_text.specs.Grammar.CharacterKinds.{is_line_feed, BeginsWithNo}
use Rattle.ini_text.proofs.ReaderLemmas.RunReaderLemmas.{run-finds}
use Rattle.ini_text.specs.Grammar.Strings.{key_ends}
use Rattle.ini_text.specs.declared.option.LoneLine.{LoneLine}
use Rattle.ini_text.specs.declared.option.LoneLine.TheVariants as lines
use Rattle.ini_text.specs.declared.option.ParseOption.{ParseOption}
use Rattle.ini_text.specs.declared.parser.endpoints.Endpoints.{Endpoints}
use Rattle.ini_text.specs.declared.parser.endpoints.Endpoints.TheVariants.{Name, BracketedName, Key}
use Rattle.ini_text.specs.declared.parser.endpoints.Endpoints.TheVariants.{DoubleQuotes, SingleQuotes, Plain}

chars_pass : (p : ℕ → Bool) → ((c : ℕ) → 128 ≤ c → p c ≡ true) → (cs : List ℕ)
    → list_all p (encode_utf8_all cs) ≡ true → list_all p cs ≡ true
chars_pass p wide [] h = refl
chars_pass p wide (c ∷ cs) h =
    let both = and_parts (list_all p (encode_utf8 c)) (list_all p (encode_utf8_all cs))
    (sym (list_all-append p (encode_utf8 c) (encode_utf8_all cs)) ∙ h) in
    let here : p c ≡ true = elim (cases_lt c 128) [
      | inl low ↦ (and_parts (p c) true (ap (list_all p) (sym (encode_ascii c low)) ∙ both.0)).0
      | inr high ↦ wide c high
    ] in
    rw (here, chars_pass p wide cs both.1) refl

run_step : (p : ℕ → Bool) (b : Bool) (n x : ℕ) (xs : List ℕ) → p x ≡ b → list_all p (take n xs) ≡ true
    → list_all p (take (cond b (1 + n) 0) (x ∷ xs)) ≡ true
run_step p true n x xs e h =
    subst (λ k. list_all p (take k (x ∷ xs)) ≡ true) (sym (one-add n)) (rw (e, h) refl)
run_step p false n x xs e h = refl

run_passes : (p : ℕ → Bool) (xs : List ℕ) → list_all p (take (prefix_len p xs) xs) ≡ true
run_passes p [] = refl
run_passes p (x ∷ xs) = run_step p (p x) (prefix_len p xs) x xs refl (run_passes p xs)

pub boundary : (p : ℕ → Bool) (bs : List ℕ) → ((c : ℕ) → 128 ≤ c → p c ≡ true)
    → IsCharBoundary bs (prefix_len p bs)
boundary p bs wide = elim (cases_lt (prefix_len p bs) (length bs)) [
  | inl within ↦
      IsCharBoundary-before_ascii bs (prefix_len p bs) within
      (elim (cases_lt (get_or bs (prefix_len p bs) 0) 128) [
        | inl low ↦ low
        | inr high ↦ let z = prefix_len_stops p bs 0 within in let y =
            wide (get_or bs (prefix_len p bs) 0) high in absurd (true≢false (sym y ∙ z))
      ])
  | inr past ↦ subst (IsCharBoundary bs) (omega (arith, prefix_len-le-length p bs)) (IsCharBoundary-end bs)
]

pub split_chars : (bs front back : List ℕ) (n : ℕ) → IsUtf8 bs → IsCharBoundary bs n → front ≡ take n bs
    → back ≡ drop n bs → chars bs ≡ chars front ++ chars back
split_chars bs front back n u b f k =
    ap chars (sym (take-append-drop n bs)) ∙ chars-append (take n bs) (drop n bs) (IsUtf8-take bs n u b)
    ∙ ap (λ l. chars l ++ chars (drop n bs)) (sym f) ∙ ap (λ l. chars front ++ chars l) (sym k)

pub run_chars : (p : ℕ → Bool) (bs front : List ℕ) (n : ℕ) → ((c : ℕ) → 128 ≤ c → p c ≡ true) → IsUtf8 bs
    → n ≡ prefix_len p bs → front ≡ take n bs → list_all p (chars front) ≡ true
run_chars p bs front n wide u e f =
    let text : IsUtf8 front =
    subst IsUtf8 (ap (λ k. take k bs) (sym e) ∙ sym f)
    (IsUtf8-take bs (prefix_len p bs) u (boundary p bs wide)) in
    chars_pass p wide (chars front)
    (ap (list_all p) (encodes-chars front text ∙ f ∙ ap (λ k. take k bs) e) ∙ run_passes p bs)

-- what follows the run doesn't begin with such a character
pub run_stops : (p : ℕ → Bool) (bs back : List ℕ) (n : ℕ) → ((c : ℕ) → 128 ≤ c → p c ≡ true) → IsUtf8 bs
    → n ≡ prefix_len p bs → back ≡ drop n bs → BeginsWithNo p (chars back)
run_stops p bs back n wide u e k =
    let k' : back ≡ drop (prefix_len p bs) bs = k ∙ ap (λ i. drop i bs) e in
    elim (cases_lt (prefix_len p bs) (length bs)) [
      | inl within ↦
          let b = get_or bs (prefix_len p bs) 0 in
          let no : p b ≡ false = prefix_len_stops p bs 0 within in
          let low : b
          < 128 = elim (cases_lt b 128)
          [ inl low ↦ low | inr high ↦ absurd (true≢false (sym (wide b high) ∙ no)) ] in
          let cut : drop (prefix_len p bs) bs ≡ b ∷ drop (suc (prefix_len p bs)) bs =
          drop-cons bs (prefix_len p bs) 0 within in
          let first = chars_past_char (drop (prefix_len p bs) bs) (drop (suc (prefix_len p bs)) bs) b
          (IsUtf8-drop bs (prefix_len p bs) u (boundary p bs wide))
          (cut ∙ ap (λ x. x ++ drop (suc (prefix_len p bs)) bs) (sym (encode_ascii b low))) in
          subst (BeginsWithNo p) (sym (ap chars k' ∙ first)) no
      | inr past ↦
          subst (BeginsWithNo p) (sym (ap chars (k' ∙ drop_all (prefix_len p bs) bs past) ∙ chars-nil)) tt
    ]

key_wide : (line : LoneLine) (c : ℕ) → 128 ≤ c → is_raw (key_ends line) c ≡ true
key_wide lines.RunsOn c l = grind (arith, nat_tests)
key_wide lines.Refused c l = grind (arith, nat_tests)
key_wide lines.Key c l = grind (arith, nat_tests)

pub raw_wide : (o : ParseOption) (ends : Endpoints) (c : ℕ) → 128 ≤ c → is_raw (ends_of o ends) c ≡ true
raw_wide o Name c l = grind (arith, nat_tests)
raw_wide o BracketedName c l = grind (arith, nat_tests)
raw_wide o Key c l = key_wide o.line_without_separator c l
raw_wide o DoubleQuotes c l = grind (arith, nat_tests)
raw_wide o SingleQuotes c l = grind (arith, nat_tests)
raw_wide o Plain c l = grind (arith, nat_tests)

pub line_feed_narrow : (c : ℕ) → 128 ≤ c → not (is_line_feed c) ≡ true
line_feed_narrow c l = grind (arith, nat_tests)

-- what follows the run is what is left once it is skipped
pub run_skipped : (p : ℕ → Bool) (bs front back : List ℕ) (n : ℕ) → ((c : ℕ) → 128 ≤ c → p c ≡ true)
    → IsUtf8 bs → n ≡ prefix_len p bs → front ≡ take n bs → back ≡ drop n bs
    → chars back ≡ skipped p (chars bs)
run_skipped p bs front back n wide u is_run is_front is_back =
    let cut = subst (IsCharBoundary bs) (sym is_run) (boundary p bs wide) in
    sym (ap (skipped p) (split_chars bs front back n u cut is_front is_back)
    ∙ (run-finds p (chars front) (chars back) (run_chars p bs front n wide u is_run is_front)
    (run_stops p bs back n wide u is_run is_back)).1)
