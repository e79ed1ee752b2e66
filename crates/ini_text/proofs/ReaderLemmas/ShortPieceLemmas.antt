-- Short pieces of a string, as they are gathered.
use Rattle.std.proofs.Common.{◌+◌, ◌≡◌, ◌≢◌, ℕ, ◌<◌, ◌≤◌, Bool, true, false, not, List, [], ◌∷◌, Option, Some}
use Rattle.std.proofs.Common.{None, IfSome, length, drop, take, get_or, ◌++◌, append-nil, append_assoc}
use Rattle.std.proofs.Common.{length-append, length-drop, unwrap_or, refl, sym, ap, ◌∙◌, subst, arith, chars}
use Rattle.std.proofs.Common.{IsUtf8, IsCharBoundary, encode_utf8, ne_eqb}
use Rattle.std.proofs.lemmas.List.{drop-drop, get_or-drop}
use Rattle.std.proofs.lemmas.Str.{chars-append, chars-encodes, chars_past_char, encode_ascii}
use Rattle.std.proofs.lemmas.Str.{IsCharBoundary-after_ascii, IsCharBoundary-from_rest, IsUtf8-append}
use Rattle.std.proofs.lemmas.Str.{IsUtf8-drop, IsUtf8-encode, IsUtf8-past_char, IsUtf8-take}
use Rattle.std.proofs.Math.Bool.{and-true}
use Rattle.std.proofs.Math.Seq.{drop-cons}
use Rattle.std.specs.Char.{IsScalar}
use Rattle.std.specs.List.{prefix_len}
use lib.Count.{count_trailing_zeros}
use Rattle.ini_text.specs.Options.Backslashes.{Escape}
use Rattle.ini_text.specs.declared.lanes.Three.{Three}
use Rattle.ini_text.specs.Grammar.CharacterKinds.{backslash, letter_x, line_feed}
use Rattle.ini_text.specs.Grammar.EscapeSequences.{control, spelled}
use Rattle.ini_text.specs.Grammar.Strings.{Ends, plain_ends}
use Rattle.ini_text.specs.Inside.Lanes.{Tells, is_one_of}
use Rattle.ini_text.specs.Inside.Reading.{found, prepend, and_then}
use Rattle.ini_text.specs.Inside.Scans.{is_raw}
use Rattle.ini_text.specs.Inside.ShortPieces.{IsEscape, IsShort, Sees}
use Rattle.ini_text.specs.Inside.StringReader.{coded_character, string}
use Rattle.ini_text.proofs.ReaderLemmas.ReaderLemmas.{prepend-nil, prepend-prepend}
use Rattle.ini_text.proofs.ReaderLemmas.StringReaderLemmas.{string_run_without_notes, string_pair}
use Rattle.ini_text.proofs.ReaderLemmas.StringReaderLemmas.{string_coded, coded_digits, coded_shortens}
use Rattle.ini_text.proofs.StringLemmas.LaneLemmas.{Tells-same, same_run, stops_at}
use Rattle.ini_text.proofs.StringLemmas.RunLemmas.{boundary, split_chars, run_chars}

-- a text whose first two bytes are ASCII
pub record BeginsWithTwo (t : List ℕ) (a b : ℕ) : Type 0 where
  pub read : chars t ≡ a ∷ b ∷ chars (drop 2 t)
  pub cut : IsCharBoundary t 2

past_ascii : (t rest : List ℕ) (c : ℕ) → IsUtf8 t → t ≡ c ∷ rest → c < 128
    → (chars t ≡ c ∷ chars rest) × IsUtf8 rest
past_ascii t rest c u is low =
    let whole = is ∙ ap (λ x. x ++ rest) (sym (encode_ascii c low)) in
    (chars_past_char t rest c u whole, IsUtf8-past_char t rest c u whole)

pub begins_with_two : (t bytes : List ℕ) (a b : ℕ) → bytes ≡ t → IsUtf8 t → 2 ≤ length bytes
    → get_or bytes 0 0 ≡ a → get_or bytes 1 0 ≡ b → a < 128 → b < 128 → BeginsWithTwo t a b
begins_with_two t bytes a b same u long first second low-a low-b =
    let text : IsUtf8 bytes = subst IsUtf8 (sym same) u in
    let begins =
    past_ascii bytes (drop 1 bytes) a
    text (drop-cons bytes 0 0 (omega arith) ∙ ap (λ x. x ∷ drop 1 bytes) first) low-a in
    let next = past_ascii (drop 1 bytes) (drop 2 bytes) b begins.1 (drop-cons bytes 1 0 (omega arith)
    ∙ ap (λ x. x ∷ drop 2 bytes) second) low-b in
    let two : BeginsWithTwo bytes a b =
    record {
      read = begins.0 ∙ ap (λ x. a ∷ x) next.0;
      cut =
          IsCharBoundary-after_ascii bytes 1 text (omega arith) (omega arith);
    } in
    subst (λ x. BeginsWithTwo x a b) same two

-- and one whose first four are
pub begins_with_four : (t bytes : List ℕ) (a b c d : ℕ) → bytes ≡ t → IsUtf8 t → 4 ≤ length bytes
    → get_or bytes 0 0 ≡ a → get_or bytes 1 0 ≡ b → get_or bytes 2 0 ≡ c → get_or bytes 3 0 ≡ d
    → a < 128 → b < 128 → c < 128 → d < 128
    → (chars t ≡ a ∷ b ∷ c ∷ d ∷ chars (drop 4 t)) × IsCharBoundary t 4
begins_with_four t bytes a b c d same u long first second third fourth low-a low-b low-c low-d =
    let text : IsUtf8 bytes = subst IsUtf8 (sym same) u in
    let two = begins_with_two bytes bytes a b refl text (omega arith) first second low-a low-b in
    let next = begins_with_two (drop 2 bytes) (drop 2 bytes) c d refl (IsUtf8-drop bytes 2 text two.cut)
    (omega (arith, length-drop 2 bytes))
    (get_or-drop 2 bytes 0 0 ∙ third) (get_or-drop 2 bytes 1 0 ∙ fourth) low-c low-d in
    let cut : IsCharBoundary bytes 4 = IsCharBoundary-after_ascii bytes 3 text (omega arith) (omega arith) in
    let read : chars bytes ≡ a ∷ b ∷ c ∷ d ∷ chars (drop 4 bytes) = two.read
    ∙ ap (λ x. a ∷ b ∷ x) (next.read ∙ ap (λ x. c ∷ d ∷ chars x) (drop-drop 2 2 bytes)) in
    subst (λ x. (chars x ≡ a ∷ b ∷ c ∷ d ∷ chars (drop 4 x)) × IsCharBoundary x 4) same (read, cut)

-- what they spell, if that is a character
pub four_spell : (t : List ℕ) {a b c d : ℕ} (r : Option ℕ)
    → (chars t ≡ a ∷ b ∷ c ∷ d ∷ chars (drop 4 t)) × IsCharBoundary t 4 → r ≡ spelled a b c d
    → IfSome r (λ v. (coded_character (chars t) ≡ found (v ∷ []) (chars (drop 4 t))) × IsCharBoundary t 4)
four_spell t None four is = tt
four_spell t (Some v) four is = (coded_digits four.0 refl refl refl (sym is), four.1)

module _ (to : Ends) where
  -- a backslash and the character after it
  pub pair_read : {t rest : List ℕ} {d v : ℕ} → t ≡ backslash ∷ d ∷ rest → d ≢ line_feed → d ≢ letter_x
      → v ≡ unwrap_or (control d) d
      → string Escape to t ≡ prepend (v ∷ []) (string Escape to rest)
  pair_read {rest = rest} {d} two n m is =
      string_pair Escape to refl two refl refl (rw (ne_eqb d 120 m) refl) ∙ rw (ne_eqb d 10 n, is) refl

  -- a code
  pub coded_read : {t ds rest : List ℕ} {v : ℕ} → t ≡ backslash ∷ letter_x ∷ ds
      → coded_character ds ≡ found (v ∷ []) rest
      → string Escape to t ≡ prepend (v ∷ []) (string Escape to rest)
  coded_read two is = string_coded Escape to two refl refl refl refl ∙ ap (and_then (string Escape to)) is

pub coded_shorter : {t ds rest v : List ℕ} → t ≡ backslash ∷ letter_x ∷ ds
    → coded_character ds ≡ found v rest
    → length rest < length t
coded_shorter {ds = ds} two is =
    coded_shortens Escape plain_ends [] two refl refl refl refl (prepend-nil (coded_character ds) ∙ is)

pub letter_escape : {t : List ℕ} {d v : ℕ} → BeginsWithTwo t 92 d → d ≢ line_feed → d ≢ letter_x
    → v ≡ unwrap_or (control d) d → IsEscape t v 2
letter_escape two n m is = record {
  few = omega arith;
  cut = two.cut;
  read = λ to. pair_read to two.read n m is;
  shorter = omega (arith, ap length two.read);
}

pub coded_escape : {t following : List ℕ} {v : ℕ} → BeginsWithTwo t 92 120 → 2 ≤ length t
    → following ≡ drop 2 t
    → coded_character (chars following) ≡ found (v ∷ []) (chars (drop 4 following))
    → IsCharBoundary following 4
    → IsEscape t v 6
coded_escape {t} {following} {v} two long is_after is cut =
    let codes : coded_character (chars (drop 2 t)) ≡ found (v ∷ []) (chars (drop 6 t)) =
    ap (λ x. coded_character (chars x)) (sym is_after) ∙ is
    ∙ ap (λ x. found (v ∷ []) (chars x)) (ap (drop 4) is_after ∙ drop-drop 4 2 t) in
    record {
      few = omega arith;
      cut = IsCharBoundary-from_rest t 2 4 long (subst (λ x. IsCharBoundary x 4) is_after cut);
      read = λ to. coded_read to two.read codes;
      shorter = coded_shorter two.read codes;
    }

twice : (b : Bool) → b ≡ not (not b)
twice true = refl
twice false = refl

-- bits of the bytes at which a run of characters ends
to_marks : (to : Ends) (three : Three)
    → ((c : ℕ) → is_raw to c ≡ not (is_one_of three.0 three.1 three.2 c)) → (c : ℕ)
    → not (is_raw to c) ≡ is_one_of three.0 three.1 three.2 c
to_marks to three same c = ap not (same c) ∙ sym (twice (is_one_of three.0 three.1 three.2 c))

pub told : (to : Ends) (three : Three) {bits : ℕ} {t : List ℕ}
    → ((c : ℕ) → is_raw to c ≡ not (is_one_of three.0 three.1 three.2 c)) → Sees to bits t
    → Tells (is_one_of three.0 three.1 three.2) 16 bits t
told to three same = Tells-same _ _ (to_marks to three same)

pub seen : (to : Ends) (three : Three) {bits : ℕ} {t : List ℕ}
    → ((c : ℕ) → is_raw to c ≡ not (is_one_of three.0 three.1 three.2 c))
    → Tells (is_one_of three.0 three.1 three.2) 16 bits t → Sees to bits t
seen to three same = Tells-same _ _ (λ c. sym (to_marks to three same c))

-- the run before the first mark that is seen
pub run_seen : (to : Ends) {bits : ℕ} {t : List ℕ} → Sees to bits t → 0 < bits
    → (count_trailing_zeros 64 bits ≡ prefix_len (is_raw to) t) × (count_trailing_zeros 64 bits ≤ 16)
    × (count_trailing_zeros 64 bits + 16 ≤ length t)
run_seen to {bits} {t} sees some =
    let stops = stops_at (λ c. not (is_raw to c)) t sees some in (
      stops.position ∙ sym (same_run (is_raw to) (λ x. not (not (is_raw to x)))
          (λ c. twice (is_raw to c)) t),
      omega (arith, stops.below),
      omega (arith, stops.within),
    )

-- a run and an escape
pub short_piece : (to : Ends) (t stop : List ℕ) (n v k : ℕ) → to.notes ≡ false
    → ((c : ℕ) → 128 ≤ c → is_raw to c ≡ true) → IsUtf8 t → 16 ≤ length t → n ≤ 16
    → n ≡ prefix_len (is_raw to) t → stop ≡ drop n t → IsEscape stop v k → IsShort to t n v k
short_piece to t stop n v k no_notes wide u long within is following escape =
    let cut : IsCharBoundary t n = subst (IsCharBoundary t) (sym is) (boundary (is_raw to) t wide) in
    let run = take n t in
    let parts = split_chars t run stop n u cut refl following in
    let rest : drop k stop ≡ drop (n + k) t = ap (drop k) following ∙ drop-drop k n t in
    let read = escape.read to ∙ ap (λ x. prepend (v ∷ []) (string Escape to (chars x))) rest in
    record {
      within = within;
      few = escape.few;
      long = long;
      run = IsUtf8-take t n u cut;
      cut = IsCharBoundary-from_rest t n k (omega arith)
          (subst (λ x. IsCharBoundary x k) following escape.cut);
      read =
          string_run_without_notes Escape to (chars run) (chars stop) parts no_notes
          (run_chars (is_raw to) t run n wide u is refl)
          ∙ ap (prepend (chars run)) read
          ∙ prepend-prepend (chars run) (v ∷ []) (string Escape to (chars (drop (n + k) t)));
      shorter = omega (
        arith,
        escape.shorter,
        ap (λ x. length (chars x)) rest,
        length-append (chars run) (chars stop),
        ap length parts,
      );
    }

-- what is gathered grows by a run and a character
pub gathered : {mid new : List ℕ} (old run : List ℕ) (v : ℕ) → IsUtf8 old → IsUtf8 run → IsScalar v
    → mid ≡ old ++ run → new ≡ mid ++ encode_utf8 v
    → (chars new ≡ chars old ++ (chars run ++ v ∷ [])) × IsUtf8 new
gathered old run v u w is first second =
    let one : chars (encode_utf8 v) ≡ v ∷ [] =
    ap chars (sym (append-nil (encode_utf8 v))) ∙ chars-encodes (v ∷ []) (and-true _ ∙ is) in
    let whole = second ∙ ap (λ x. x ++ encode_utf8 v) first in
    let both = IsUtf8-append old run u w in (
      ap chars whole ∙ chars-append (old ++ run) (encode_utf8 v) both
          ∙ ap (λ x. x ++ chars (encode_utf8 v)) (chars-append old run u)
          ∙ append_assoc (chars old) (chars run) (chars (encode_utf8 v))
          ∙ ap (λ x. chars old ++ (chars run ++ x)) one,
      subst IsUtf8 (sym whole) (IsUtf8-append (old ++ run) (encode_utf8 v) both (IsUtf8-encode v is)),
    )
