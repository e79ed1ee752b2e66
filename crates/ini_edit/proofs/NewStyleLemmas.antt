-- The style of a new pair: which pair's it is, and that it is blanks and a separator; and a source in the
-- first form that is read back.
use Rattle.std.proofs.Common.{◌≡◌, ◌∙◌, ◌≤◌, ◌<◌, ◌-◌, ◌&&◌, ℕ, Bool, true, false, List, [], ◌∷◌, ◌++◌}
use Rattle.std.proofs.Common.{None, Option, Some, ap, append-nil, append_assoc, arith, chars, get_or}
use Rattle.std.proofs.Common.{if◌then◌else◌, length, min, refl, sym, take}
use Rattle.std.proofs.lemmas.Bool.{and_from, and_parts, cond_both, cond-false, cond-true}
use Rattle.std.proofs.lemmas.List.{drop_all, take_all, take_min}
use Rattle.std.proofs.lemmas.List.Folds.{list_all-append}
use Rattle.std.specs.List.{list_all}
use Rattle.std.specs.Option.{option_map, option_or, unwrap_or}
use Rattle.std.specs.Prelude.{⊤}
use Rattle.ini_text.specs.Grammar.CharacterKinds.{equals, is_blank, is_line_end, is_separator, line_feed}
use Rattle.ini_text.specs.Grammar.Places.{Stretches}
use Rattle.ini_text.specs.Grammar.Positions.{last_or, starts_line}
use Rattle.ini_text.specs.Laws.Plain.{IsPlainSeparator}
use Rattle.ini_text.specs.Parsing.Fronts.{front_of}
use Rattle.ini_text.specs.declared.option.ParseOption.{ParseOption}
use Rattle.ini_text.specs.declared.write.option.WriteOption.{WriteOption}
use Rattle.ini_text.proofs.LawLemmas.PieceLemmas.{last_or-append}
use Rattle.ini_text.proofs.StringLemmas.FrontLemmas.{front_is}
use Rattle.ini.specs.Texts.{Text}
use Rattle.ini_edit.specs.Inside.InPlace.{AreInPlace}
use Rattle.ini_edit.specs.Inside.SourceEnds.{IsPlaceAt, last_before, style_at, style_before, style_in}
use Rattle.ini_edit.specs.Inside.SourceEnds.{style_in_first}
use Rattle.ini_edit.specs.Inside.Spans.{AreSections, AreSpans, IsPair, IsSpan, Span, pairs_spans}
use Rattle.ini_edit.specs.Inside.Spans.{sections_spans, span_source}
use Rattle.ini_edit.specs.SourceLines.{after_blanks, blanks_at_end}
use Rattle.ini_edit.specs.SourcePlaces.{Place, up_to_pairs}
use Rattle.ini_edit.specs.SourceWritten.{IsFirstReadAs, IsReadAs, Style, first_or, last_that_begins}
use Rattle.ini_edit.specs.SourceWritten.{last_that_begins_in, new_style, option_style, rest_of, style_like}
use Rattle.ini_edit.specs.SourceWritten.{style_or}
use Rattle.ini_edit.specs.Sources.{PairPiece, SectionPiece, has_separator, pair_text, section_text}
use Rattle.ini_edit.specs.Sources.{sections_text}
use Rattle.ini_edit.proofs.FirstLemmas.{rest_here}
use Rattle.ini_edit.proofs.InPlaceLemmas.{in_place-split}
use Rattle.ini_edit.proofs.NewPairLemmas.{IsPlainStyle, IsSourceFor}
use Rattle.ini_edit.proofs.ReadAsLemmas.{bare_tail, feed, lines_read, source_starts, value_read}
use Rattle.ini_edit.proofs.SourcePartLemmas.{before_index}
use Rattle.ini_edit.proofs.SourcePlaceLemmas.{index_place, place_drop, place_take}
use Rattle.ini_edit.proofs.StyleLemmas.{separator_no_blank}

-- a source that is read back
first_read : {o : ParseOption} {value source : Text} {forms : List Text}
    → IsFirstReadAs o value forms source
    → IsReadAs o source value
first_read (IsFirstReadAs.here h) = h
first_read (IsFirstReadAs.later apart more) = first_read more

pub source_for : {o : ParseOption} {value source : Text} {forms : List Text}
    → IsFirstReadAs o value forms source → IsSourceFor o source value
source_for first =
    let h = first_read first in
    record {
      gives = λ w t r white tail. value_read h w white (bare_tail feed [] refl tail) (λ none. refl);
      own = λ t r tail. lines_read h (bare_tail feed [] refl tail);
      starts = source_starts h;
    }

-- blanks
blank_end : (t : Text) → list_all is_blank (blanks_at_end t) ≡ true
blank_end [] = refl
blank_end (c ∷ cs) =
    cond_both (list_all is_blank (c ∷ cs)) (c ∷ cs) (blanks_at_end cs) (λ t. list_all is_blank t ≡ true)
    (λ all. all) (λ _. blank_end cs)

blank_front : (t : Text) → (w : Text) × (w ++ after_blanks t ≡ t) × (list_all is_blank w ≡ true)
blank_front [] = ([], refl, refl)
blank_front (c ∷ cs) = at (is_blank c) refl (blank_front cs)
  where
    at : (b : Bool) → is_blank c ≡ b
        → (w : Text) × (w ++ after_blanks cs ≡ cs) × (list_all is_blank w ≡ true)
        → (w : Text) × (w ++ (if b then after_blanks cs else c ∷ cs) ≡ c ∷ cs) × (list_all is_blank w ≡
        true)
    at true blank rest = (c ∷ rest.0, ap (λ z. c ∷ z) rest.1, and_from (is_blank c) _ blank rest.2)
    at false other rest = ([], refl, refl)

blanks_before : (t : Text) → list_all is_blank (front_of t (after_blanks t)) ≡ true
blanks_before t =
    let f = blank_front t in ap (list_all is_blank) (front_is f.0 (after_blanks t) t f.1) ∙ f.2

-- the separator of a pair; a key alone is written with another
abbrev separates : PairPiece → Bool
separates p = is_separator (unwrap_or p.stretches.separator equals)

abbrev SeparatesOr : Option PairPiece → Type 0
SeparatesOr None = ⊤
SeparatesOr (Some p) = separates p ≡ true

style_plain : (o : ParseOption) (p : PairPiece) → separates p ≡ true → IsPlainStyle o (style_like o p)
style_plain o p h = record {
  indent = cond_both o.enabled_preserve_key_leading_whitespace [] _ (λ t. list_all is_blank t ≡ true)
      (λ _. refl) (λ _. blanks_before p.stretches.key);
  kept = λ on. cond-true o.enabled_preserve_key_leading_whitespace [] _ on;
  pad = blank_end p.stretches.key;
  separates = h;
  space_before = blanks_before p.stretches.space_before;
}

separator_solid : (c : ℕ) → is_separator c ≡ true → is_blank c ≡ false
separator_solid c h = at (is_blank c) refl
  where
    at : (b : Bool) → is_blank c ≡ b → is_blank c ≡ false
    at true blank = separator_no_blank c h blank
    at false other = other

past_front : (w r : Text) (c : ℕ) → list_all is_blank w ≡ true → is_blank c ≡ false
    → after_blanks (w ++ c ∷ r) ≡ c ∷ r
past_front [] r c blank solid = cond-false (is_blank c) (after_blanks r) (c ∷ r) solid
past_front (d ∷ w) r c blank solid =
    let parts = and_parts (is_blank d) (list_all is_blank w) blank in
    cond-true (is_blank d) _ _ parts.0 ∙ past_front w r c parts.1 solid

option_plain : (o : ParseOption) {text : Text} → IsPlainSeparator text → IsPlainStyle o (option_style text)
option_plain o {text} p =
    let rest : after_blanks text ≡ p.separator ∷ p.after =
    ap after_blanks p.whole
    ∙ past_front p.before p.after p.separator p.blank_before (separator_solid p.separator p.separates) in
    record {
      indent = refl;
      kept = λ _. refl;
      pad = blanks_before text;
      separates = ap (λ t. is_separator (first_or equals t)) rest ∙ p.separates;
      space_before = ap (λ t. list_all is_blank (rest_of t)) rest ∙ p.blank_after;
    }

one_of : (b : Bool) (p : PairPiece) → separates p ≡ true → SeparatesOr (if b then Some p else None)
one_of true p h = h
one_of false p h = tt

either : (a b : Option PairPiece) → SeparatesOr a → SeparatesOr b → SeparatesOr (option_or a b)
either None b one other = other
either (Some p) b one other = one

last_separates : (front : Text) (ps : List PairPiece) → list_all separates ps ≡ true
    → SeparatesOr (last_that_begins front ps)
last_separates front [] h = tt
last_separates front (p ∷ ps) h =
    let parts = and_parts (separates p) (list_all separates ps) h in
    either (last_that_begins (front ++ pair_text p) ps) _ (last_separates (front ++ pair_text p) ps parts.1)
    (one_of (starts_line front && has_separator p) p parts.0)

abbrev all_separate : SectionPiece → Bool
all_separate s = list_all separates s.pairs

last_in_separates : (front : Text) (ss : List SectionPiece) → list_all all_separate ss ≡ true
    → SeparatesOr (last_that_begins_in front ss)
last_in_separates front [] h = tt
last_in_separates front (s ∷ ss) h =
    let parts = and_parts (all_separate s) (list_all all_separate ss) h in
    let more = front ++ section_text s in
    either (last_that_begins_in more ss) _ (last_in_separates more ss parts.1)
    (last_separates (front ++ (s.header ++ s.after)) s.pairs parts.0)

pair_separates : {o : ParseOption} {c : ℕ} {p : Stretches} {key value r : Text}
    → IsPair o c p key value r → is_separator (unwrap_or p.separator equals) ≡ true
pair_separates (IsPair.has_value is) =
    ap (λ m. is_separator (unwrap_or m equals)) is.separator_is ∙ is.separates
pair_separates (IsPair.is_lone is) = ap (λ m. is_separator (unwrap_or m equals)) is.lone.no_separator

pairs_separate : {o : ParseOption} {c : ℕ} {r : Text} (ps : List PairPiece) (rest : List Span)
    → AreSpans o c (pairs_spans ps ++ rest) r → list_all separates ps ≡ true
pairs_separate [] rest h = refl
pairs_separate (p ∷ ps) rest (AreInPlace.more (IsSpan.is_pair is) (AreInPlace.more _ later)) =
    and_from (separates p) _ (pair_separates is) (pairs_separate ps rest later)

sections_separate : {o : ParseOption} {c : ℕ} {r : Text} (ss : List SectionPiece)
    → AreSpans o c (sections_spans ss) r → list_all all_separate ss ≡ true
sections_separate [] h = refl
sections_separate (s ∷ ss) (AreInPlace.more _ (AreInPlace.more _ later)) =
    and_from (all_separate s) _ (pairs_separate s.pairs (sections_spans ss) later)
    (sections_separate ss (in_place-split span_source (pairs_spans s.pairs) (sections_spans ss) later).1)

-- the style that a new pair has after pairs of a section
style_of_or : (o : ParseOption) {text : Text} → IsPlainSeparator text → (found : Option PairPiece)
    → SeparatesOr found → IsPlainStyle o (style_or o (option_style text) found)
style_of_or o plain None h = option_plain o plain
style_of_or o plain (Some p) h = style_plain o p h

part_separates : (before rest : List PairPiece) → list_all separates (before ++ rest) ≡ true
    → list_all separates before ≡ true
part_separates before rest h =
    (and_parts (list_all separates before) _ (sym (list_all-append separates before rest) ∙ h)).0

here_separates : (before : List SectionPiece) (s : SectionPiece) (rest : List SectionPiece)
    → list_all all_separate (before ++ s ∷ rest) ≡ true → all_separate s ≡ true
here_separates before s rest h =
    (and_parts (all_separate s) (list_all all_separate rest)
    (and_parts (list_all all_separate before) _ (sym (list_all-append all_separate before (s ∷ rest)) ∙
    h)).1).0

pub new_style_plain : (o : ParseOption) (w : WriteOption) {ss : List SectionPiece} {s : Place SectionPiece}
    {i : ℕ} (before rest : List PairPiece) → IsPlainSeparator (chars w.kv_separator.now) → IsPlaceAt ss s i
    → s.here.pairs ≡ before ++ rest → AreSections o ss
    → IsPlainStyle o (new_style o w (up_to_pairs s) before ss)
new_style_plain o w {ss} {s} before rest plain at whole are =
    let all = sections_separate ss are.spans in
    let here = here_separates s.before s.here s.after (ap (list_all all_separate) (sym at.whole) ∙ all) in
    style_of_or o plain _
    (either (last_that_begins (up_to_pairs s) before) (last_that_begins_in [] ss)
    (last_separates (up_to_pairs s) before
    (part_separates before rest (ap (list_all separates) (sym whole) ∙ here)))
    (last_in_separates [] ss all))

-- what pair that is depends on the last character before the pairs
begins_alike : (f g : Text) (ps : List PairPiece) → last_or line_feed f ≡ last_or line_feed g
    → last_that_begins f ps ≡ last_that_begins g ps
begins_alike f g [] same = refl
begins_alike f g (p ∷ ps) same =
    ap (λ l. option_or l (if starts_line f && has_separator p then Some p else None))
    (begins_alike (f ++ pair_text p) (g ++ pair_text p) ps
    (last_or-append line_feed f (pair_text p) ∙ ap (λ c. last_or c (pair_text p)) same
    ∙ sym (last_or-append line_feed g (pair_text p))))
    ∙ ap (λ c. option_or (last_that_begins (g ++ pair_text p) ps)
    (if is_line_end c && has_separator p then Some p else None)) same

mapped_or : (o : ParseOption) (style : Style) (a b : Option PairPiece)
    → unwrap_or (option_or (option_map (style_like o) a) (option_map (style_like o) b)) style
    ≡ style_or o style (option_or a b)
mapped_or o style None None = refl
mapped_or o style None (Some p) = refl
mapped_or o style (Some p) b = refl

pub style_there : (o : ParseOption) {ss : List SectionPiece} {s : Place SectionPiece} {i : ℕ} (j : ℕ)
    → IsPlaceAt ss s i
    → style_in o ss i j ≡ option_map (style_like o) (last_that_begins (up_to_pairs s) (take j s.here.pairs))
style_there o {ss} {s} {i} j at =
    let part = s.here.header ++ s.here.after in
    ap (style_in_first o (last_before ss i) j) (place_drop at)
    ∙ ap (option_map (style_like o))
    (begins_alike (last_before ss i ∷ part) (up_to_pairs s) (take j s.here.pairs)
    (ap (λ l. last_or (last_or line_feed (sections_text l)) part) (place_take at)
    ∙ sym (last_or-append line_feed (sections_text s.before) part)))

pub style_is_new : (o : ParseOption) (w : WriteOption) {ss : List SectionPiece} {s : Place SectionPiece}
    {i : ℕ} (j : ℕ) {before : List PairPiece} → IsPlaceAt ss s i → take j s.here.pairs ≡ before
    → style_at o w ss i j ≡ new_style o w (up_to_pairs s) before ss
style_is_new o w {ss} {s} j {before} at same =
    let options = option_style (chars w.kv_separator.now) in
    let later = option_map (style_like o) (last_that_begins_in [] ss) in
    ap (λ l. unwrap_or (option_or l later) options)
    (style_there o j at ∙ ap (λ l. option_map (style_like o) (last_that_begins (up_to_pairs s) l)) same)
    ∙ mapped_or o options (last_that_begins (up_to_pairs s) before) (last_that_begins_in [] ss)

-- no more than there are pairs stand before an index
pub style_within : (o : ParseOption) (ss : List SectionPiece) {i front : ℕ} {s : SectionPiece} (j k : ℕ)
    → i < length ss → s ≡ get_or ss i s → k ≡ min j (length s.pairs) → front ≡ last_before ss i
    → style_before o front s k ≡ style_in o ss i j
style_within o ss {i} {front} {s} j k within is is_min is_front =
    let begins = λ (f : ℕ) (ps : List PairPiece).
    option_map (style_like o) (last_that_begins (f ∷ (s.header ++ s.after)) ps) in
    ap (λ n. style_before o front s n) is_min ∙ ap (begins front) (take_min j s.pairs)
    ∙ ap (λ f. begins f (take j s.pairs)) is_front
    ∙ sym (ap (style_in_first o (last_before ss i) j) (rest_here ss i s within is))

-- the last pair that begins a line among sections, the last of them first
or_none : {A : Type 0} (a : Option A) → option_or a None ≡ a
or_none None = refl
or_none (Some x) = refl

or_later : {A : Type 0} (a b c : Option A) → option_or (option_or a b) c ≡ option_or a (option_or b c)
or_later None b c = refl
or_later (Some x) b c = refl

begins_in_last : (f : Text) (ss : List SectionPiece) (s : SectionPiece)
    → last_that_begins_in f (ss ++ s ∷ [])
    ≡ option_or (last_that_begins ((f ++ sections_text ss) ++ (s.header ++ s.after)) s.pairs)
    (last_that_begins_in f ss)
begins_in_last f [] s =
    ap (λ t. last_that_begins (t ++ (s.header ++ s.after)) s.pairs) (sym (append-nil f))
    ∙ sym (or_none (last_that_begins ((f ++ []) ++ (s.header ++ s.after)) s.pairs))
begins_in_last f (t ∷ ss) s =
    let first = last_that_begins (f ++ (t.header ++ t.after)) t.pairs in
    let later = last_that_begins_in (f ++ section_text t) ss in
    ap (λ l. option_or l first) (begins_in_last (f ++ section_text t) ss s)
    ∙ or_later (last_that_begins (((f ++ section_text t) ++ sections_text ss) ++ (s.header ++ s.after))
    s.pairs)
    later first
    ∙ ap (λ x. option_or (last_that_begins (x ++ (s.header ++ s.after)) s.pairs) (option_or later first))
    (append_assoc f (section_text t) (sections_text ss))

mapped : (o : ParseOption) (a b : Option PairPiece)
    → option_map (style_like o) (option_or a b)
    ≡ option_or (option_map (style_like o) a) (option_map (style_like o) b)
mapped o None b = refl
mapped o (Some p) b = refl

abbrev pub style_in_front : ParseOption → List SectionPiece → ℕ → Option Style
style_in_front o ss left = option_map (style_like o) (last_that_begins_in [] (take left ss))

pub style_one_more : (o : ParseOption) (ss : List SectionPiece) {left before : ℕ} {s : SectionPiece}
    → (1 ≤ left) × (before ≡ left - 1) → left ≤ length ss → s ≡ get_or ss before s
    → style_in_front o ss left
    ≡ option_or (style_in o ss before (length s.pairs)) (style_in_front o ss before)
style_one_more o ss {left} {before} {s} at within is =
    let place = index_place ss before s (omega (arith, at.0, at.1, within)) is in
    ap (λ l. option_map (style_like o) (last_that_begins_in [] l)) (before_index at within refl is)
    ∙ ap (option_map (style_like o)) (begins_in_last [] (take before ss) s)
    ∙ mapped o (last_that_begins (sections_text (take before ss) ++ (s.header ++ s.after)) s.pairs)
    (last_that_begins_in [] (take before ss))
    ∙ ap (λ x. option_or x (style_in_front o ss before))
    (sym (style_there o (length s.pairs) place
    ∙ ap (λ l. option_map (style_like o) (last_that_begins (sections_text (take before ss)
    ++ (s.header ++ s.after)) l)) (take_all (length s.pairs) s.pairs (omega arith))))

-- the style is that of the last pair among all sections where none is in the section itself
pub style_found : (o : ParseOption) (w : WriteOption) (ss : List SectionPiece) (i j : ℕ) {style : Style}
    → None ≡ style_in o ss i j → style_in_front o ss (length ss) ≡ Some style → style ≡ style_at o w ss i j
style_found o w ss i j none is =
    let options = option_style (chars w.kv_separator.now) in
    let later = option_map (style_like o) (last_that_begins_in [] ss) in
    sym (ap (λ a. unwrap_or (option_or a later) options) (sym none)
    ∙ ap (λ l. unwrap_or (option_map (style_like o) (last_that_begins_in [] l)) options)
    (sym (take_all (length ss) ss (omega arith)))
    ∙ ap (λ b. unwrap_or b options) is)

-- the style of the first pair of a new section
pub style_anew : (o : ParseOption) (w : WriteOption) (ss : List SectionPiece) (j : ℕ)
    → style_at o w ss (length ss) j ≡ new_style o w [] [] ss
style_anew o w ss j =
    let options = option_style (chars w.kv_separator.now) in
    let later = option_map (style_like o) (last_that_begins_in [] ss) in
    ap (λ l. unwrap_or (option_or (style_in_first o (last_before ss (length ss)) j l) later) options)
    (drop_all (length ss) ss (omega arith))
    ∙ mapped_or o options None (last_that_begins_in [] ss)

pub new_style_anew : (o : ParseOption) (w : WriteOption) {ss : List SectionPiece}
    → IsPlainSeparator (chars w.kv_separator.now) → AreSections o ss
    → IsPlainStyle o (new_style o w [] [] ss)
new_style_anew o w {ss} plain are =
    style_of_or o plain _ (last_in_separates [] ss (sections_separate ss are.spans))
