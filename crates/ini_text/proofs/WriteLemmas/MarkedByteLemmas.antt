-- Bytes of which each that is marked goes out as the escape of its character.
use Rattle.std.proofs.Common.{◌≡◌, ◌≢◌, ℕ, None, zero, suc, ◌+◌, ◌<◌, ◌≤◌, Bool, true, false, not, cond, List}
use Rattle.std.proofs.Common.{[], ◌∷◌, ◌++◌, length, take, drop, get_or, inl, inr, leb, refl, ap, ap₂, ◌∙◌}
use Rattle.std.proofs.Common.{sym, arith, append_assoc, append-nil, IsUtf8, chars, encode_utf8_all, add-zero}
use lib.Utf8.{encode}
use Rattle.std.proofs.Math.Seq.{take-length}
use Rattle.std.proofs.lemmas.Bool.Decides.{nat_tests}
use Rattle.std.proofs.lemmas.Grind.{flat_map-append}
use Rattle.std.proofs.lemmas.Str.{encode_ascii, encodes-IsAscii, encodes-append, encodes-chars}
use Rattle.std.proofs.lemmas.Bool.{and_parts, cases_lt}
use Rattle.std.proofs.lemmas.List.{drop_more, get_or-drop, length-drop}
use Rattle.std.proofs.lemmas.List.Sums.{passes_at_first}
use Rattle.std.specs.List.{list_all, position_or_len}
use Rattle.ini_text.specs.Escaping.EscapedTexts.{escape, letter_of, escaped, escaped_bytes}
use Rattle.ini_text.specs.Escaping.Policies.{is_escaped}
use Rattle.std.proofs.lemmas.List.Elements.{All-drop}
use Rattle.ini_text.specs.Inside.Verbatim.{HaveLetters, begins_escaped, marked_escaped}
use Rattle.ini_text.specs.declared.write.policy.EscapePolicy.{EscapePolicy}
use Rattle.ini_text.specs.declared.write.policy.EscapePolicy.TheVariants.{Basics, Reserved}
use Rattle.ini_text.proofs.WriteLemmas.EscapeByteLemmas.{IsAscii-escape}
use Rattle.ini_text.proofs.WriteLemmas.VerbatimRunLemmas.{begins-basic, begins-reserved}
use Rattle.ini_text.proofs.StringLemmas.LaneLemmas.{StopsAt}

module _ (p : ℕ → Bool) where
  passed_first : (b : Bool) (n left c : ℕ) (front back : List ℕ) → suc n ≤ cond (not b) (1 + left) 0
      → (n ≤ left → back ≡ front) → cond b (escape c) (c ∷ []) ++ back ≡ c ∷ front
  passed_first true n left c front back fits rest = absurd (omega arith)
  passed_first false n left c front back fits rest = ap (λ l. c ∷ l) (rest (omega arith))

  -- bytes of which none is marked
  pub marked_escaped-run : (n : ℕ) (bytes : List ℕ) → n ≤ position_or_len p bytes
      → marked_escaped p bytes ≡ take n bytes ++ marked_escaped p (drop n bytes)
  marked_escaped-run zero bytes within = refl
  marked_escaped-run (suc n) [] within = absurd (omega arith)
  marked_escaped-run (suc n) (c ∷ bytes) within =
      passed_first (p c) n (position_or_len p bytes) c _ _ within (marked_escaped-run n bytes)

  -- and where none is in all of them
  pub marked_escaped-none : (bytes : List ℕ) → position_or_len p bytes ≡ length bytes
      → marked_escaped p bytes ≡ bytes ++ marked_escaped p (drop (length bytes) bytes)
  marked_escaped-none bytes none =
      marked_escaped-run (length bytes) bytes (omega (arith, none))
      ∙ ap (λ l. l ++ marked_escaped p (drop (length bytes) bytes)) (take-length bytes)

  -- a byte that is marked
  pub marked_escaped-next : (c : ℕ) (bytes rest : List ℕ) → bytes ≡ c ∷ rest → p c ≡ true
      → marked_escaped p bytes ≡ escape c ++ marked_escaped p rest
  marked_escaped-next c bytes rest parts is =
      ap (marked_escaped p) parts ∙ ap (λ b. cond b (escape c) (c ∷ []) ++ marked_escaped p rest) is

  -- a piece more is pushed, and what follows it is left
  pub pushed_more : (before piece rest left : List ℕ) {after whole : List ℕ} → after ≡ before ++ piece
      → marked_escaped p rest ≡ piece ++ marked_escaped p left
      → before ++ marked_escaped p rest ≡ whole → after ++ marked_escaped p left ≡ whole
  pushed_more before piece rest left grown next so_far =
      ap (λ l. l ++ marked_escaped p left) grown ∙ append_assoc before piece (marked_escaped p left)
      ∙ ap (λ l. before ++ l) (sym next) ∙ so_far

  -- all is pushed, and nothing is left
  pub pushed_all : (after left : List ℕ) {whole : List ℕ} → left ≡ [] → after ++ marked_escaped p left ≡ whole
      → after ≡ whole
  pushed_all after left none all = sym (ap (λ l. after ++ marked_escaped p l) none ∙ append-nil after) ∙ all

  -- escapes have letters, also those of what follows
  pub letters-past : (n : ℕ) (bytes : List ℕ) {left : List ℕ} → left ≡ drop n bytes → HaveLetters p bytes
      → HaveLetters p left
  letters-past n bytes is letters =
      rw is (All-drop (λ byte. p byte ≡ true → letter_of byte ≢ None) n bytes letters)

  -- a byte that is marked, at its place
  pub marked_escaped-marked : (bytes : List ℕ) (at : ℕ) → at < length bytes → p (get_or bytes at 0) ≡ true
      → marked_escaped p (drop at bytes)
      ≡ escape (get_or bytes at 0) ++ marked_escaped p (drop (at + 1) bytes)
  marked_escaped-marked bytes at within marked =
      marked_escaped-next (get_or bytes at 0) (drop at bytes) (drop (at + 1) bytes)
      (drop_more bytes at 0 within) marked

  -- the first byte that is marked
  pub stopped_at_mark : (bytes : List ℕ) (run : ℕ) → StopsAt p 0 bytes run → p (get_or bytes run 0) ≡ true
  stopped_at_mark bytes run stops = rw stops.position (passes_at_first p bytes 0
      (let inside = stops.within in omega (arith, inside, stops.position)))

  -- the same after bytes that are not marked
  pub marked_escaped-after : (bytes : List ℕ) (run : ℕ) → StopsAt p 0 bytes run → marked_escaped p bytes
      ≡ (take run bytes ++ escape (get_or bytes run 0)) ++ marked_escaped p (drop (run + 1) bytes)
  marked_escaped-after bytes run stops =
      marked_escaped-run run bytes (omega (arith, stops.position))
      ∙ ap (λ l. take run bytes ++ l) (marked_escaped-marked bytes run (omega (arith, stops.within))
      (stopped_at_mark bytes run stops))
      ∙ sym (append_assoc (take run bytes) (escape (get_or bytes run 0))
      (marked_escaped p (drop (run + 1) bytes)))

  -- the bytes before the first that is marked, and what stands after them
  pub marked_escaped-split : (bytes front back : List ℕ) (run : ℕ) → run ≡ position_or_len p bytes
      → front ≡ take run bytes → back ≡ drop run bytes
      → marked_escaped p bytes ≡ front ++ marked_escaped p back
  marked_escaped-split bytes front back run stops is_front is_back =
      marked_escaped-run run bytes (omega (arith, stops))
      ∙ sym (ap (λ l. l ++ marked_escaped p back) is_front
      ∙ ap (λ l. take run bytes ++ marked_escaped p l) is_back)

  pub marked_escaped-at : (bytes back : List ℕ) (run : ℕ) → run ≡ position_or_len p bytes
      → back ≡ drop run bytes → 0 < length back
      → marked_escaped p back ≡ escape (get_or back 0 0) ++ marked_escaped p (drop 1 back)
  marked_escaped-at bytes back run stops is_back some =
      let within : position_or_len p bytes < length bytes =
      omega (arith, length-drop run bytes, ap length is_back) in
      let first : get_or back 0 0 ≡ get_or bytes (position_or_len p bytes) 0 =
      rw (is_back, get_or-drop, add-zero, stops) refl in
      marked_escaped-next (get_or back 0 0) back (drop 1 back) (drop_more back 0 0 some)
      (ap p first ∙ passes_at_first p bytes 0 within)

  -- bytes beyond ASCII, of which none is marked
  marked_escaped-beyond : ((byte : ℕ) → 0x80 ≤ byte → p byte ≡ false) → (bytes : List ℕ)
      → list_all (λ b. leb 0x80 b) bytes ≡ true → marked_escaped p bytes ≡ bytes
  marked_escaped-beyond none [] beyond = refl
  marked_escaped-beyond none (b ∷ bytes) beyond =
      let both = and_parts (leb 0x80 b) (list_all (λ b. leb 0x80 b) bytes) beyond in
      ap (λ x. cond x (escape b) (b ∷ []) ++ marked_escaped p bytes)
      (none b (let high = both.0 in grind (arith, nat_tests)))
      ∙ ap (λ l. b ∷ l) (marked_escaped-beyond none bytes both.1)

encode_beyond : (c : ℕ) → 0x80 ≤ c → list_all (λ b. leb 0x80 b) (encode c) ≡ true
unfolding encode
encode_beyond c beyond = grind (arith, nat_tests)

-- Where a policy escapes ASCII alone, each byte tells what goes out for it.
module _ (policy : EscapePolicy)
    (ascii : (c : ℕ) → 0x80 ≤ c → (begins_escaped policy c ≡ false) × (is_escaped policy c ≡ false)) where
  one_escaped : (c : ℕ) → marked_escaped (begins_escaped policy) (encode c) ≡ encode_utf8_all
      (cond (is_escaped policy c) (escape c) (c ∷ []))
  one_escaped c =
      elim (cases_lt c 0x80) [
        | inl below ↦ ascii_escaped (is_escaped policy c) below refl
        | inr beyond ↦
            marked_escaped-beyond (begins_escaped policy) (λ b h. (ascii b h).0) (encode c)
            (encode_beyond c beyond)
            ∙ sym (ap (λ b. encode_utf8_all (cond b (escape c) (c ∷ []))) (ascii c beyond).1
            ∙ append-nil (encode c))
      ]
    where
      ascii_escaped : (b : Bool) → c < 0x80 → is_escaped policy c ≡ b
          → marked_escaped (begins_escaped policy) (encode c) ≡ encode_utf8_all (cond b (escape c) (c ∷ []))
      ascii_escaped true below is =
          let same : begins_escaped policy c ≡ is_escaped policy c = grind (arith, nat_tests) in
          ap (marked_escaped (begins_escaped policy)) (encode_ascii c below)
          ∙ ap (λ b. cond b (escape c) (c ∷ []) ++ []) (same ∙ is)
          ∙ append-nil (escape c) ∙ sym (encodes-IsAscii (escape c) (IsAscii-escape c))
      ascii_escaped false below is =
          let same : begins_escaped policy c ≡ is_escaped policy c = grind (arith, nat_tests) in
          ap (marked_escaped (begins_escaped policy)) (encode_ascii c below)
          ∙ ap (λ b. cond b (escape c) (c ∷ []) ++ []) (same ∙ is)
          ∙ sym (ap (λ l. l ++ []) (encode_ascii c below))

  chars_escaped : (text : List ℕ)
      → marked_escaped (begins_escaped policy) (encode_utf8_all text) ≡ encode_utf8_all (escaped policy text)
  chars_escaped [] = refl
  chars_escaped (c ∷ text) =
      flat_map-append _ (encode c) (encode_utf8_all text)
      ∙ ap₂ (λ a b. a ++ b) (one_escaped c) (chars_escaped text)
      ∙ sym (encodes-append (cond (is_escaped policy c) (escape c) (c ∷ [])) (escaped policy text))

  escaped_bytes-marked : (bytes : List ℕ) → IsUtf8 bytes
      → escaped_bytes policy bytes ≡ marked_escaped (begins_escaped policy) bytes
  escaped_bytes-marked bytes is_text = sym (chars_escaped (chars bytes))
      ∙ ap (marked_escaped (begins_escaped policy)) (encodes-chars bytes is_text)

basics_ascii : (c : ℕ) → 0x80 ≤ c → (begins_escaped Basics c ≡ false) × (is_escaped Basics c ≡ false)
basics_ascii c beyond = (begins-basic c ∙ grind (arith, nat_tests), grind (arith, nat_tests))

reserved_ascii : (c : ℕ) → 0x80 ≤ c → (begins_escaped Reserved c ≡ false) × (is_escaped Reserved c ≡ false)
reserved_ascii c beyond = (begins-reserved c ∙ grind (arith, nat_tests), grind (arith, nat_tests))

-- what goes out for a text by these policies
pub marked-basics : {policy : EscapePolicy} {bytes text : List ℕ} → bytes ≡ text → IsUtf8 text
    → policy ≡ Basics → marked_escaped (begins_escaped Basics) bytes ≡ escaped_bytes policy text
marked-basics {text = text} same is_text is =
    ap (marked_escaped (begins_escaped Basics)) same
    ∙ sym (escaped_bytes-marked Basics basics_ascii text is_text) ∙ ap (λ p. escaped_bytes p text) (sym is)

pub marked-reserved : {policy : EscapePolicy} {bytes text : List ℕ} → bytes ≡ text → IsUtf8 text
    → policy ≡ Reserved → marked_escaped (begins_escaped Reserved) bytes ≡ escaped_bytes policy text
marked-reserved {text = text} same is_text is =
    ap (marked_escaped (begins_escaped Reserved)) same
    ∙ sym (escaped_bytes-marked Reserved reserved_ascii text is_text)
    ∙ ap (λ p. escaped_bytes p text) (sym is)
