-- The line feeds of a text, counted among its bytes, and the end of its whole lines.
use Rattle.std.proofs.Common.{◌≡◌, ◌≢◌, ℕ, suc, ◌+◌, ◌<◌, ◌≤◌, ◌^◌, ◌%◌, true, false, cond, eqb, List, []}
use Rattle.std.proofs.Common.{◌∷◌, ◌++◌, length, map, take, drop, get_or, replicate, refl, sym, ap, ◌∙◌}
use Rattle.std.proofs.Common.{arith, inl, inr, append-nil, take-append-drop, length-drop, count_by}
use Rattle.std.proofs.Common.{chars, IsUtf8, encode_utf8, encode_utf8_all, ne_eqb}
use Rattle.std.proofs.lemmas.Bool.{cases_lt}
use Rattle.std.proofs.lemmas.List.{get_or-drop, take_more}
use Rattle.std.proofs.lemmas.List.Sums.{sum_by-append, sum_by-cons}
use Rattle.std.proofs.lemmas.Simd.{chunk-drop, length-chunk, ones-mask_l}
use Rattle.std.proofs.lemmas.Str.{IsCharBoundary-before_ascii, IsUtf8-take}
use Rattle.std.proofs.lemmas.Str.{encode_ascii, encodes-chars, inside_one}
use lib.Lanes.{chunk, mask_l, top, zip2}
use lib.Count.{ones}
use Rattle.ini_text.specs.Grammar.CharacterKinds.{line_feed, is_line_feed}
use Rattle.ini_text.specs.Grammar.Positions.{is_column_one}
use Rattle.ini_text.proofs.StringLemmas.LaneLemmas.{bits, equal, full}
use Rattle.ini_text.proofs.StringLemmas.ScanLemmas.{last_chars, last_or_append}

feeds_of_cons : (c : ℕ) (cs : List ℕ)
    → count_by is_line_feed (c ∷ cs) ≡ cond (is_line_feed c) 1 0 + count_by is_line_feed cs
feeds_of_cons c cs = sum_by-cons (λ x. cond (is_line_feed x) 1 0) c cs

feeds_of_parts : (xs ys : List ℕ)
    → count_by is_line_feed (xs ++ ys) ≡ count_by is_line_feed xs + count_by is_line_feed ys
feeds_of_parts xs ys = sum_by-append (λ x. cond (is_line_feed x) 1 0) xs ys

-- bytes none of which is LF
no_feeds : (bs : List ℕ) → ((k : ℕ) → k < length bs → get_or bs k 0 ≢ line_feed)
    → count_by is_line_feed bs ≡ 0
no_feeds [] none = refl
no_feeds (b ∷ bs) none =
    let other : is_line_feed b ≡ false = ne_eqb b 10 (none 0 (omega arith)) in
    feeds_of_cons b bs ∙ ap (λ t. cond t 1 0 + count_by is_line_feed bs) other
    ∙ omega (arith, no_feeds bs (λ k within. none (suc k) (omega arith)))

-- the bytes of a character
wide_bytes : (c k : ℕ) → 128 ≤ c → k < length (encode_utf8 c) → get_or (encode_utf8 c) k 0 ≢ line_feed
wide_bytes c k wide within is =
    let whole = sym (append-nil (encode_utf8 c)) in
    absurd (omega (arith, inside_one c [] (encode_utf8 c) k whole within (omega arith)))

feeds_of_one : (c : ℕ) → count_by is_line_feed (encode_utf8 c) ≡ cond (is_line_feed c) 1 0
feeds_of_one c = elim (cases_lt c 128) [
  | inl low ↦ ap (count_by is_line_feed) (encode_ascii c low) ∙ omega arith
  | inr high ↦
      no_feeds (encode_utf8 c) (λ k within. wide_bytes c k high within)
      ∙ ap (λ t. cond t 1 0) (sym (ne_eqb c 10 (λ is. absurd (omega arith))))
]

feeds_of_all : (cs : List ℕ) → count_by is_line_feed (encode_utf8_all cs) ≡ count_by is_line_feed cs
feeds_of_all [] = refl
feeds_of_all (c ∷ cs) =
    feeds_of_parts (encode_utf8 c) (encode_utf8_all cs)
    ∙ omega (arith, feeds_of_one c, feeds_of_all cs, feeds_of_cons c cs)

-- a text has as many line feeds among its bytes as among its characters
pub feeds_of_text : (bs : List ℕ) → IsUtf8 bs → count_by is_line_feed bs ≡ count_by is_line_feed (chars bs)
feeds_of_text bs u = ap (count_by is_line_feed) (sym (encodes-chars bs u)) ∙ feeds_of_all (chars bs)

-- the line feeds of a block are the bits of its lanes
pub feeds_of_block : (bs : List ℕ) (at : ℕ) → at + 16 ≤ length bs
    → ones (mask_l (map (top 7) (zip2 (λ a b. full (eqb a b)) (chunk at 16 bs) (replicate 16 10))) % 2 ^ 64)
    + count_by is_line_feed (drop (at + 16) bs) ≡ count_by is_line_feed (drop at bs)
feeds_of_block bs at room =
    let block = chunk at 16 bs in
    let rest = drop (at + 16) bs in
    let long = length-chunk at 16 bs room in
    ap (λ n. ones n + count_by is_line_feed rest) (bits is_line_feed block long (equal 10 block long))
    ∙ ap (λ n. n + count_by is_line_feed rest) (ones-mask_l is_line_feed block)
    ∙ sym (ap (count_by is_line_feed) (chunk-drop at 16 bs) ∙ feeds_of_parts block rest)

-- a text without LF has no whole lines
pub no_lines : (text : List ℕ) → IsUtf8 text → ((k : ℕ) → k < length text → get_or text k 0 ≢ line_feed)
    → 0 ≡ count_by is_line_feed (chars text)
no_lines text u none = sym (no_feeds text none) ∙ feeds_of_text text u

-- an LF stands there, and none after it
abbrev pub IsLastFeed : List ℕ → ℕ → Type 0
IsLastFeed text last =
    (last < length text) × (get_or text last 0 ≡ line_feed)
    × ((k : ℕ) → last < k → k < length text → get_or text k 0 ≢ line_feed)

ends_in_feed : (text : List ℕ) (last : ℕ) → IsLastFeed text last
    → take (last + 1) text ≡ take last text ++ encode_utf8 line_feed
ends_in_feed text last (within, is, none) =
    take_more text last 0 within ∙ ap (λ c. take last text ++ c ∷ []) is
    ∙ ap (λ l. take last text ++ l) (sym (encode_ascii line_feed (omega arith)))

none_after : (text : List ℕ) (last : ℕ) → IsLastFeed text last
    → count_by is_line_feed (drop (last + 1) text) ≡ 0
none_after text last (within, is, none) = no_feeds (drop (last + 1) text) (λ k inside is_feed.
    none (last + 1 + k) (omega arith) (omega (arith, length-drop (last + 1) text))
    (sym (get_or-drop (last + 1) text k 0) ∙ is_feed))

-- the lines up to the last LF end in it
pub lines_end : (text lines : List ℕ) (last : ℕ) → IsUtf8 text → IsLastFeed text last
    → IsUtf8 lines → lines ≡ take (last + 1) text → is_column_one (chars lines) ≡ true
lines_end text lines last u is_last v are =
    let front = take last text in
    let cut = IsCharBoundary-before_ascii text last is_last.0 (omega arith) in
    let front_text = IsUtf8-take text last u cut in
    let split = last_chars lines front line_feed v front_text (are ∙ ends_in_feed text last is_last) in
    ap is_column_one split ∙ ap is_line_feed (last_or_append line_feed line_feed (chars front))

-- they have all the line feeds of the text
pub feeds_of_lines : (text lines : List ℕ) (last : ℕ) → IsUtf8 text → IsLastFeed text last
    → lines ≡ take (last + 1) text → count_by is_line_feed lines ≡ count_by is_line_feed (chars text)
feeds_of_lines text lines last u is_last are =
    let front = take (last + 1) text in
    let whole = ap (count_by is_line_feed) (take-append-drop (last + 1) text) in
    let parts = feeds_of_parts front (drop (last + 1) text) in
    ap (count_by is_line_feed) are ∙ omega (arith, none_after text last is_last, whole, parts)
    ∙ feeds_of_text text u
