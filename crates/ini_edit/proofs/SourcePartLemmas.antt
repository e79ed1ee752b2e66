-- The parts of a pair and of a section, as the code puts them together.
use Rattle.std.proofs.Common.{◌≡◌, ◌∙◌, ◌<◌, ◌≤◌, ◌+◌, ◌-◌, ◌&&◌, ℕ, true, false, cond, List, [], ◌∷◌, ◌++◌}
use Rattle.std.proofs.Common.{length, None, Some, get_or, drop, set, take, ap, append-nil, append_assoc}
use Rattle.std.proofs.Common.{Option, arith, eq-eqb, nat_eq, not, refl, suc, sym}
use Rattle.std.proofs.lemmas.Bool.{cond-false, cond-true}
use Rattle.std.proofs.lemmas.List.{drop_all, set_split, take-append-drop, take_more}
use Rattle.std.specs.Option.{option_or}
use Rattle.ini_text.specs.Grammar.CharacterKinds.{is_line_end}
use Rattle.ini_text.specs.Grammar.Places.{Stretches, pair_source, separator_text, value_source}
use Rattle.ini_text.specs.Grammar.Positions.{last_or, starts_line}
use Rattle.ini_text.specs.Parsing.Fronts.{front_of}
use Rattle.ini_text.specs.declared.option.ParseOption.{ParseOption}
use Rattle.ini_text.proofs.LawLemmas.PieceLemmas.{last_or-append}
use Rattle.ini_text.proofs.StringLemmas.FrontLemmas.{front_is}
use Rattle.ini.specs.Texts.{Text}
use Rattle.ini_edit.specs.Inside.SourceEnds.{end_put, end_put_at, with_new_end}
use Rattle.ini_edit.specs.SourceEdits.{with_pairs}
use Rattle.ini_edit.specs.SourceEditsDelete.{rest_put, with_rest}
use Rattle.ini_edit.specs.SourceLines.{is_empty}
use Rattle.ini_edit.specs.SourcePlaces.{last_before_gap, text_up_to, with_end}
use Rattle.ini_edit.specs.SourceWritten.{last_that_begins}
use Rattle.ini_edit.specs.Sources.{PairPiece, SectionPiece, has_separator, is_multiline, pair_text}
use Rattle.ini_edit.specs.Sources.{pairs_text}
use Rattle.ini_edit.specs.declared.source.pair.ends.NewEnd.{NewEnd}
use Rattle.ini_edit.proofs.FirstLemmas.{rest_here}
use Rattle.ini_edit.proofs.InPlaceLemmas.{joined-append, joined-more}
use Rattle.ini_edit.proofs.SourcePlaceLemmas.{end_put-end, gap_of-end, rest_put-end}

-- the last character of a pair's source, one stretch after another
pub source_last : (c : ℕ) (p : Stretches)
    → last_or (last_or (last_or (last_or (last_or (last_or c (p.key ++ separator_text p.separator))
    p.space_before) p.raw_value) p.space_after) p.note) p.trailing_lines ≡ last_or c (pair_source p)
source_last c p =
    let key = p.key ++ separator_text p.separator in
    let at = last_or c key in
    let value = last_or (last_or at p.space_before) p.raw_value in
    sym (ap (last_or c) (sym (append_assoc p.key (separator_text p.separator) (value_source p)))
    ∙ last_or-append c key (value_source p)
    ∙ last_or-append at p.space_before (p.raw_value ++ (p.space_after ++ (p.note ++ p.trailing_lines)))
    ∙ last_or-append (last_or at p.space_before) p.raw_value (p.space_after ++ (p.note ++ p.trailing_lines))
    ∙ last_or-append value p.space_after (p.note ++ p.trailing_lines)
    ∙ last_or-append (last_or value p.space_after) p.note p.trailing_lines)

pub source_ends : (c : ℕ) (p : Stretches) {a b d e f g : ℕ} {before value after note lines : Text}
    → a ≡ last_or c (p.key ++ separator_text p.separator) → before ≡ p.space_before → b ≡ last_or a before
    → value ≡ p.raw_value → d ≡ last_or b value → after ≡ p.space_after → e ≡ last_or d after
    → note ≡ p.note → g ≡ last_or e note → lines ≡ p.trailing_lines → f ≡ last_or g lines
    → f ≡ last_or c (pair_source p)
source_ends c p is_a is_before is_b is_value is_d is_after is_e is_note is_g is_lines is_f =
    let all = source_last c p in cc

pub text_ends : (c : ℕ) (p : PairPiece) {e f : ℕ} {gap : Text} → e ≡ last_or c (pair_source p.stretches)
    → gap ≡ p.after → f ≡ last_or e gap → f ≡ last_or c (pair_text p)
text_ends c p {e} {f} source is_gap is_f =
    is_f ∙ ap (last_or e) is_gap ∙ ap (λ x. last_or x p.after) source
    ∙ sym (last_or-append c (pair_source p.stretches) p.after)

-- an empty text ends in what stands before it, and no other one does
pub ends_in_front : (t : Text) → not (nat_eq (last_or 10 t) (last_or 13 t)) ≡ is_empty t
ends_in_front [] = refl
ends_in_front (c ∷ t) = ap not (eq-eqb (last_or c t) (last_or c t) refl)

-- the last character of a text that has one, whatever stands before it
pub some_last : (c d : ℕ) (t : Text) → is_empty t ≡ false → last_or c t ≡ last_or d t
some_last c d [] h = absurd (let no : true ≡ false = h in cc)
some_last c d (x ∷ t) h = refl

-- a pair's text after a front, one stretch after another
pub after_stretches : (front : Text) (p : PairPiece)
    → ((((((front ++ p.stretches.key) ++ separator_text p.stretches.separator) ++ p.stretches.space_before)
    ++ p.stretches.raw_value) ++ p.stretches.space_after) ++ p.stretches.note) ++ p.stretches.trailing_lines
    ≡ front ++ pair_source p.stretches
after_stretches front p = simp append_assoc

-- a list up to an index ends in the one before it
pub take_before : {A : Type 0} (xs : List A) (i j : ℕ) (x : A) → j + 1 ≡ i → j < length xs
    → x ≡ get_or xs j x → take i xs ≡ take j xs ++ x ∷ []
take_before xs i j x next within is =
    ap (λ n. take n xs) (sym next) ∙ take_more xs j x within ∙ ap (λ y. take j xs ++ y ∷ []) (sym is)

pub before_index : {A : Type 0} {xs ys : List A} {i j : ℕ} {x : A} → (1 ≤ i) × (j ≡ i - 1) → i ≤ length ys
    → xs ≡ ys → x ≡ get_or xs j x → take i ys ≡ take j ys ++ x ∷ []
before_index {ys = ys} {i} {j} {x} at within same is =
    take_before ys i j x (omega arith) (omega arith) (is ∙ ap (λ l. get_or l j x) same)

pub search_parts : (front : Text) (p : PairPiece) {key separator before value after note lines gap : Text}
    → key ≡ p.stretches.key → separator ≡ separator_text p.stretches.separator
    → before ≡ p.stretches.space_before
    → value ≡ p.stretches.raw_value → after ≡ p.stretches.space_after → note ≡ p.stretches.note
    → lines ≡ p.stretches.trailing_lines → gap ≡ p.after
    → (((((((front ++ key) ++ separator) ++ before) ++ value) ++ after) ++ note) ++ lines) ++ gap
    ≡ front ++ pair_text p
search_parts front p is_key is_separator is_before is_value is_after is_note is_lines is_gap =
    let all = ap (λ t. t ++ p.after) (after_stretches front p)
    ∙ append_assoc front (pair_source p.stretches) p.after in cc

-- up to the gap after a pair
pub to_last : (s : SectionPiece) (ps : List PairPiece) (p : PairPiece)
    → text_up_to s (ps ++ p ∷ []) ≡ (text_up_to s ps ++ pair_source p.stretches) ++ p.after
to_last s ps p =
    let source = pair_source p.stretches in
    ap (λ t. s.header ++ (s.after ++ t))
    (joined-append pair_text ps (p ∷ []) ∙ ap (λ t. pairs_text ps ++ t) (append-nil (pair_text p)))
    ∙ sym (append_assoc (text_up_to s ps) source p.after
    ∙ append_assoc s.header (s.after ++ pairs_text ps) (source ++ p.after)
    ∙ ap (λ t. s.header ++ t) (append_assoc s.after (pairs_text ps) (source ++ p.after)))

pub before_gap_last : (front : ℕ) (s : SectionPiece) (ps : List PairPiece) (p : PairPiece)
    → last_before_gap front s (ps ++ p ∷ [])
    ≡ last_or (last_or front (text_up_to s ps)) (pair_source p.stretches)
before_gap_last front s ps p =
    let up_to = text_up_to s ps in
    let source = pair_source p.stretches in
    ap (λ g. last_or front (front_of (text_up_to s (ps ++ p ∷ [])) g)) (gap_of-end s.after ps p)
    ∙ ap (last_or front) (front_is (up_to ++ source) p.after (text_up_to s (ps ++ p ∷ []))
    (sym (to_last s ps p)))
    ∙ last_or-append front up_to source

pub before_gap_header : (front : ℕ) (s : SectionPiece) → last_before_gap front s [] ≡ last_or front s.header
before_gap_header front s =
    ap (last_or front) (front_is s.header s.after (text_up_to s [])
    (ap (λ t. s.header ++ t) (sym (append-nil s.after))))

-- the end of the pair before an index is put in
module _ (e : NewEnd) (s : SectionPiece) where
  pub rest_is_put : (o : ParseOption) (lines gap : Text) (xs ps : List PairPiece) (p : PairPiece)
      → xs ≡ ps ++ p ∷ [] → with_new_end e p ≡ with_rest o lines gap p
      → (after : List PairPiece) → end_put e s xs after ≡ rest_put o lines gap s xs after
  rest_is_put o lines gap xs ps p is put after =
      ap (λ l. end_put e s l after) is ∙ end_put-end s ps p after e
      ∙ ap (λ q. with_pairs s (ps ++ q ∷ after)) put
      ∙ sym (ap (λ l. rest_put o lines gap s l after) is ∙ rest_put-end s ps p after o lines gap)

  pub end_is_put : (i j : ℕ) (p : PairPiece) → j + 1 ≡ i → j < length s.pairs → p ≡ get_or s.pairs j p
      → with_pairs s (set s.pairs j (with_new_end e p)) ≡ end_put_at e i s
  end_is_put i j p next within is =
      let same : suc j ≡ i = omega arith in
      ap (with_pairs s) (set_split s.pairs j (with_new_end e p) within)
      ∙ ap (λ n. with_pairs s (take j s.pairs ++ with_new_end e p ∷ drop n s.pairs)) same
      ∙ sym (ap (λ l. end_put e s l (drop i s.pairs)) (take_before s.pairs i j p next within is)
      ∙ end_put-end s (take j s.pairs) p (drop i s.pairs) e)

pub end_put_in : (e : NewEnd) {s t : SectionPiece} {i j : ℕ} {x y : PairPiece} → t ≡ s
    → (1 ≤ i) × (j ≡ i - 1) → i ≤ length s.pairs → x ≡ get_or t.pairs j x → y ≡ with_new_end e x
    → with_pairs t (set t.pairs j y) ≡ end_put_at e i s
end_put_in e {s} {t} {i} {j} {x} {y} same at within is put =
    ap (λ p. with_pairs t (set t.pairs j p)) put
    ∙ ap (λ u. with_pairs u (set u.pairs j (with_new_end e x))) same
    ∙ end_is_put e s i j x (omega arith) (omega arith) (is ∙ ap (λ u. get_or u.pairs j x) same)

-- and lines and a gap after the last pair
pub rest_pushed : (o : ParseOption) (lines gap : Text) {s t : SectionPiece} {i j : ℕ} {x y : PairPiece}
    → t ≡ s → (1 ≤ i) × (j ≡ i - 1) → i ≡ length t.pairs → x ≡ get_or t.pairs j x
    → y ≡ with_rest o lines gap x → with_pairs t (set t.pairs j y) ≡ rest_put o lines gap s s.pairs []
rest_pushed o lines gap {s} {t} {i} {j} {x} {y} same at all is put =
    let front = take j t.pairs in
    let within : j < length t.pairs = omega arith in
    let none : drop (j + 1) t.pairs ≡ [] = drop_all (j + 1) t.pairs (omega arith) in
    let whole : t.pairs ≡ front ++ x ∷ [] =
    sym (take-append-drop j t.pairs)
    ∙ ap (λ l. front ++ l) (rest_here t.pairs j x within is ∙ ap (λ l. x ∷ l) none) in
    let next : suc j ≡ j + 1 = omega arith in
    ap (with_pairs t) (set_split t.pairs j y within
    ∙ ap (λ n. front ++ y ∷ drop n t.pairs) next ∙ ap (λ l. front ++ y ∷ l) none
    ∙ ap (λ q. front ++ q ∷ []) put)
    ∙ sym (rest_put-end t front x [] o lines gap) ∙ ap (λ l. rest_put o lines gap t l []) (sym whole)
    ∙ ap (λ u. rest_put o lines gap u u.pairs []) same

-- lines and a gap after a pair
module _ (o : ParseOption) (lines gap : Text) (p : PairPiece) {t g : Text} where
  pub rest_taken : (is_multiline o p && is_empty p.after) ≡ true
      → t ≡ p.stretches.trailing_lines ++ lines → g ≡ p.after ++ gap
      → with_end t g p ≡ with_rest o lines gap p
  rest_taken taken is_t is_g =
      ap (λ x. with_end x g p) is_t ∙ ap (λ x. with_end (p.stretches.trailing_lines ++ lines) x p) is_g
      ∙ sym (cond-true (is_multiline o p && is_empty p.after) _ _ taken)

  pub rest_after : (is_multiline o p && is_empty p.after) ≡ false
      → t ≡ p.stretches.trailing_lines → g ≡ (p.after ++ lines) ++ gap
      → with_end t g p ≡ with_rest o lines gap p
  rest_after apart is_t is_g =
      ap (λ x. with_end x g p) is_t
      ∙ ap (λ x. with_end p.stretches.trailing_lines x p) (is_g ∙ append_assoc p.after lines gap)
      ∙ sym (cond-false (is_multiline o p && is_empty p.after) _ _ apart)

-- one pair more of a section's text, and those that are left
module _ (front : Text) (s : SectionPiece) (xs : List PairPiece) (i : ℕ) (x : PairPiece) where
  pub one_pair_on : i < length xs → x ≡ get_or xs i x
      → (front ++ text_up_to s (take i xs)) ++ pair_text x ≡ front ++ text_up_to s (take (i + 1) xs)
  one_pair_on within is =
      let before = pairs_text (take i xs) in
      append_assoc front (text_up_to s (take i xs)) (pair_text x)
      ∙ ap (λ t. front ++ t) (append_assoc s.header (s.after ++ before) (pair_text x)
      ∙ ap (λ t. s.header ++ t) (append_assoc s.after before (pair_text x)
      ∙ ap (λ t. s.after ++ t) (sym (joined-more pair_text xs i x within is))))

pub rest_of_pairs : (front : Text) (s : SectionPiece) (xs : List PairPiece) (i : ℕ)
    → (front ++ text_up_to s (take i xs)) ++ pairs_text (drop i xs) ≡ front ++ text_up_to s xs
rest_of_pairs front s xs i =
    let before = pairs_text (take i xs) in
    let rest = pairs_text (drop i xs) in
    append_assoc front (text_up_to s (take i xs)) rest
    ∙ ap (λ t. front ++ t) (append_assoc s.header (s.after ++ before) rest
    ∙ ap (λ t. s.header ++ t) (append_assoc s.after before rest
    ∙ ap (λ t. s.after ++ t) (sym (joined-append pair_text (take i xs) (drop i xs))
    ∙ ap pairs_text (take-append-drop i xs))))

-- the last of pairs that begins a line and has a separator
pub begins_last : (front : Text) (ps : List PairPiece) (p : PairPiece)
    → (starts_line (front ++ pairs_text ps) && has_separator p) ≡ true
    → last_that_begins front (ps ++ p ∷ []) ≡ Some p
begins_last front [] p h =
    cond-true (starts_line front && has_separator p) (Some p) None
    (ap (λ t. starts_line t && has_separator p) (sym (append-nil front)) ∙ h)
begins_last front (q ∷ ps) p h =
    ap (λ l. option_or l (cond (starts_line front && has_separator q) (Some q) None))
    (begins_last (front ++ pair_text q) ps p
    (ap (λ t. starts_line t && has_separator p) (append_assoc front (pair_text q) (pairs_text ps)) ∙ h))

pub begins_earlier : (front : Text) (ps : List PairPiece) (p : PairPiece)
    → (starts_line (front ++ pairs_text ps) && has_separator p) ≡ false
    → last_that_begins front (ps ++ p ∷ []) ≡ last_that_begins front ps
begins_earlier front [] p h =
    cond-false (starts_line front && has_separator p) (Some p) None
    (ap (λ t. starts_line t && has_separator p) (sym (append-nil front)) ∙ h)
begins_earlier front (q ∷ ps) p h =
    ap (λ l. option_or l (cond (starts_line front && has_separator q) (Some q) None))
    (begins_earlier (front ++ pair_text q) ps p
    (ap (λ t. starts_line t && has_separator p) (append_assoc front (pair_text q) (pairs_text ps)) ∙ h))

pub begins_before : (front : Text) (xs : List PairPiece) (i j : ℕ) (x : PairPiece)
    → (1 ≤ i) × (j ≡ i - 1) → i ≤ length xs → x ≡ get_or xs j x
    → (starts_line (front ++ pairs_text (take j xs)) && has_separator x) ≡ false
    → last_that_begins front (take i xs) ≡ last_that_begins front (take j xs)
begins_before front xs i j x at within is starts =
    ap (last_that_begins front) (before_index {xs = xs} at within refl is)
    ∙ begins_earlier front (take j xs) x starts

pub starts_after : (front : ℕ) (s : SectionPiece) (ps : List PairPiece)
    → starts_line ((front ∷ (s.header ++ s.after)) ++ pairs_text ps)
    ≡ is_line_end (last_or front (text_up_to s ps))
starts_after front s ps =
    ap (λ t. is_line_end (last_or front t)) (append_assoc s.header s.after (pairs_text ps))
