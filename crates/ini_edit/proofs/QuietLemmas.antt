-- Elements by what they give, and those that give nothing by the texts that they stand before and by what
-- they begin with.
use Rattle.std.proofs.Common.{◌≡◌, ◌≢◌, ℕ, Bool, true, false, not, ◌||◌, ◌==◌, List, [], ◌∷◌, ◌++◌}
use Rattle.std.proofs.Common.{append-nil, ◌∙◌, refl, subst, sym}
use Rattle.std.proofs.lemmas.Bool.{and_from, and_parts, both_ways, false≢true, false_from_ne_true}
use Rattle.std.proofs.lemmas.Bool.{not_from_false, or_parts}
use Rattle.std.proofs.lemmas.List.Folds.{list_all-append}
use Rattle.std.specs.Char.{is_whitespace}
use Rattle.std.specs.List.{list_all}
use Rattle.ini_text.specs.Grammar.CharacterKinds.{BeginsWith, BeginsWithNo, carriage_return, close_bracket}
use Rattle.ini_text.specs.Grammar.CharacterKinds.{is_blank, is_comment_mark, is_line_end, is_line_feed}
use Rattle.ini_text.specs.Grammar.CharacterKinds.{is_separator, line_feed, open_bracket}
use Rattle.ini_text.specs.Grammar.Elements.{Element, Gap, Given, Header, IsBracketed, Pair, may_have_note}
use Rattle.ini_text.specs.Grammar.Keys.{Indentation, KeyFront, begins_indented_key}
use Rattle.ini_text.specs.Grammar.Lines.{Note}
use Rattle.ini_text.specs.Grammar.Positions.{is_column_one, starts_line}
use Rattle.ini_text.specs.Grammar.Strings.{Closes, Str, bracketed_name_ends, name_ends, noted, plain_ends}
use Rattle.ini_text.specs.Grammar.Values.{Value}
use Rattle.ini_text.specs.Grammar.WhiteSpace.{trimmed}
use Rattle.ini_text.specs.Options.ReadOptions.{backslash_of}
use Rattle.ini_text.specs.declared.option.LoneLine.TheVariants.{Key}
use Rattle.ini_text.specs.declared.option.ParseOption.{ParseOption}
use Rattle.ini_text.proofs.GrammarLemmas.KindLemmas.{comment_mark-apart, line_end_no_blank}
use Rattle.ini_text.proofs.PlainLemmas.PlainTrimLemmas.{line_end_is_white}
use Rattle.ini.specs.Texts.{Text}

-- an element that gives nothing and stands before any text; and one that ends with the text
pub data Free (b : Text) : Text → Type 0 where
  line : {w : Text} (c : ℕ) → Indentation b w → is_line_end c ≡ true → Free b (w ++ c ∷ [])
  white : {c : ℕ} → is_whitespace c ≡ true → (is_blank c ≡ true → starts_line b ≡ false) → Free b (c ∷ [])
  comment : {m : ℕ} (s : Text) → is_column_one b ≡ true → is_comment_mark m ≡ true
      → list_all (λ c. not (is_line_feed c)) s ≡ true → Free b (m ∷ (s ++ line_feed ∷ []))

pub data Tail (o : ParseOption) (b : Text) : Text → Type 0 where
  comment : {m : ℕ} {s : Text} → is_column_one b ≡ true → is_comment_mark m ≡ true
      → list_all (λ c. not (is_line_feed c)) s ≡ true → Tail o b (m ∷ s)
  blanks : {w : Text} → Indentation b w → Tail o b w
  key : {w : Text} (s : Text) → Indentation b w → BeginsWith (begins_indented_key o) s → Tail o b (w ++ s)

-- what stands before a note in its line: the blanks that begin this, with indented comments, or nothing,
-- where a note may stand
pub data NoteFront (o : ParseOption) (b : Text) : Text → Type 0 where
  indented : {w : Text} → o.enabled_indented_comment ≡ true → Indentation b w → NoteFront o b w
  alone : may_have_note o b ≡ true → is_column_one b ≡ false → NoteFront o b []

-- an element that gives nothing, by the texts that it stands before
pub data Quiet (o : ParseOption) (b : Text) : Text → Text → Type 0 where
  anywhere : {s r : Text} → Free b s → Quiet o b s r
  before_header : {w r : Text} → Indentation b w → Quiet o b w (open_bracket ∷ r)
  at_end : {s : Text} → Tail o b s → Quiet o b s []
  at_line_end : {w s r : Text} → NoteFront o b w → Note s r → Quiet o b (w ++ s) r

-- a header's source before r, and the section's name
pub data IsHeader (o : ParseOption) : Text → Text → Text → Type 0 where
  plain : {s r v : Text} → o.enabled_brackets_in_section_names ≡ false
      → Str (backslash_of o) name_ends s (close_bracket ∷ r) v
      → IsHeader o (open_bracket ∷ (s ++ close_bracket ∷ [])) r (trimmed v)
  bracketed : {s r v name : Text} → o.enabled_brackets_in_section_names ≡ true
      → Str (backslash_of o) (noted o bracketed_name_ends) s r v → IsBracketed v name
      → IsHeader o (open_bracket ∷ s) r (trimmed name)

-- an element, by what it gives
pub data Shape (o : ParseOption) (b : Text) : Text → Text → List Given → Type 0 where
  quiet : {s r : Text} → Quiet o b s r → Shape o b s r []
  header : {s r name : Text} → IsHeader o s r name → Shape o b s r (Header name ∷ [])
  pair : {k s r key v : Text} {m : ℕ} → KeyFront o b k (m ∷ (s ++ r)) key → key ≢ []
      → is_separator m ≡ true → Value o s r v → Shape o b (k ++ m ∷ s) r (Pair key v ∷ [])
  lone_key : {k r key : Text} → o.line_without_separator ≡ Key → KeyFront o b k r key → key ≢ []
      → BeginsWithNo is_separator r → Shape o b k r (Pair key [] ∷ [])

-- a comment's source after the front b, before r, and what it gives
pub data IsComment (o : ParseOption) (b : Text) : Text → Text → List Given → Type 0 where
  whole : {m : ℕ} {r : Text} (s : Text) → is_column_one b ≡ true → is_comment_mark m ≡ true
      → list_all (λ c. not (is_line_feed c)) s ≡ true → IsComment o b (m ∷ (s ++ line_feed ∷ [])) r []
  last : {m : ℕ} {s : Text} → is_column_one b ≡ true → is_comment_mark m ≡ true
      → list_all (λ c. not (is_line_feed c)) s ≡ true → IsComment o b (m ∷ s) [] []
  alone : {s r : Text} → may_have_note o b ≡ true → is_column_one b ≡ false → Note s r → IsComment o b s r []

-- what an element that gives nothing begins with
pub data QuietFront (o : ParseOption) (b : Text) : Text → Text → Type 0 where
  blanks : {w r : Text} (t : Text) → Indentation b w → QuietFront o b (w ++ t) r
  white : {c : ℕ} {r : Text} → is_whitespace c ≡ true → (is_blank c ≡ true → starts_line b ≡ false)
      → QuietFront o b (c ∷ []) r
  comment : {m : ℕ} {t r : Text} → is_comment_mark m ≡ true → IsComment o b (m ∷ t) r []
      → QuietFront o b (m ∷ t) r

-- a note, before each text that closes its line, and before no other
pub note_before : {s r : Text} (x : Text) → Closes plain_ends x → Note s r → Note s x
note_before x closes (Note.note mark all was) = Note.note mark all closes

pub note_ahead : {X : Type 0} {s : Text} (r : Text) → Note s r → BeginsWith (λ c. not (is_line_end c)) r → X
note_ahead r (Note.note mark all closes) begins = at r closes begins
  where
    apart : {X : Type 0} (x y : Bool) → (x || (y || false)) ≡ true → not (x || y) ≡ true → X
    apart true y h n = absurd (false≢true n)
    apart false true h n = absurd (false≢true n)
    apart false false h n = absurd (false≢true h)

    at : {X : Type 0} (r : Text) → Closes plain_ends r → BeginsWith (λ c. not (is_line_end c)) r → X
    at [] closes begins = absurd (false≢true (sym begins))
    at (c ∷ r) closes begins = apart (is_line_feed c) (c == carriage_return) closes begins

pub note_closes : {s r : Text} → Note s r → Closes plain_ends r
note_closes (Note.note mark all closes) = closes

pub mark_no_end : (m : ℕ) → is_comment_mark m ≡ true → is_line_end m ≡ false
mark_no_end m mark =
    false_from_ne_true (is_line_end m)
    (λ end. both_ways (is_whitespace m) (comment_mark-apart m mark).1 (line_end_is_white m end))

pub line_end_no_mark : (c : ℕ) → is_line_end c ≡ true → is_comment_mark c ≡ false
line_end_no_mark c end =
    false_from_ne_true (is_comment_mark c) (λ mark. both_ways (is_line_end c) (mark_no_end c mark) end)

-- no line ends in it
pub note_within : {s r : Text} → Note s r → list_all (λ c. not (is_line_end c)) s ≡ true
note_within (Note.note {m} mark all closes) =
    and_from (not (is_line_end m)) _ (not_from_false (is_line_end m) (mark_no_end m mark)) all

-- nor in what stands before it in its line
blanks_within : (w : Text) → list_all is_blank w ≡ true → list_all (λ c. not (is_line_end c)) w ≡ true
blanks_within [] all = refl
blanks_within (c ∷ w) all =
    let parts = and_parts (is_blank c) (list_all is_blank w) all in
    let other = false_from_ne_true (is_line_end c)
    (λ end. both_ways (is_blank c) (line_end_no_blank c end) parts.0) in
    and_from (not (is_line_end c)) _ (not_from_false (is_line_end c) other) (blanks_within w parts.1)

pub note_line_within : {o : ParseOption} {b w s r : Text} → NoteFront o b w → Note s r
    → list_all (λ c. not (is_line_end c)) (w ++ s) ≡ true
note_line_within {w = w} {s = s} (NoteFront.indented on i) remark =
    list_all-append (λ c. not (is_line_end c)) w s
    ∙ and_from (list_all (λ c. not (is_line_end c)) w) _ (blanks_within w i.blank) (note_within remark)
note_line_within (NoteFront.alone may late) remark = note_within remark

only_blanks : {o : ParseOption} {b w r : Text} → Indentation b w → QuietFront o b w r
only_blanks {o} {b} {w} {r} i = subst (λ s. QuietFront o b s r) (append-nil w) (QuietFront.blanks [] i)

module _ {o : ParseOption} {b : Text} where
  pub free : {s : Text} (x : Text) → Free b s → Element o b s x []
  free x (Free.line c i end) = Element.gap (Gap.blank_line c i end)
  free x (Free.white q n) = Element.gap (Gap.white q n)
  free x (Free.comment s one mark all) = Element.comment s one mark all

  pub note_element : {w s r : Text} → NoteFront o b w → Note s r → Element o b (w ++ s) r []
  note_element (NoteFront.indented on i) n = Element.indented_comment on i n
  note_element (NoteFront.alone may late) n = Element.note may late n

  pub shape : {s r : Text} {gives : List Given} → Element o b s r gives → Shape o b s r gives
  shape (Element.gap (Gap.blank_line c i end)) = Shape.quiet (Quiet.anywhere (Free.line c i end))
  shape (Element.gap (Gap.before_header i)) = Shape.quiet (Quiet.before_header i)
  shape (Element.gap (Gap.white q n)) = Shape.quiet (Quiet.anywhere (Free.white q n))
  shape (Element.comment s one mark all) = Shape.quiet (Quiet.anywhere (Free.comment s one mark all))
  shape (Element.last_comment one mark all) = Shape.quiet (Quiet.at_end (Tail.comment one mark all))
  shape (Element.indented_comment on i n) = Shape.quiet (Quiet.at_line_end (NoteFront.indented on i) n)
  shape (Element.note may late n) = Shape.quiet (Quiet.at_line_end (NoteFront.alone may late) n)
  shape (Element.header off str) = Shape.header (IsHeader.plain off str)
  shape (Element.bracketed_header on str i) = Shape.header (IsHeader.bracketed on str i)
  shape (Element.pair front some sep value) = Shape.pair front some sep value
  shape (Element.lone_key may_be front some next) = Shape.lone_key may_be front some next
  shape (Element.dropped_blanks i) = Shape.quiet (Quiet.at_end (Tail.blanks i))
  shape (Element.dropped_key {s = s} runs i begins stops) = Shape.quiet (Quiet.at_end (Tail.key s i begins))

  pub as_header : {s r name : Text} → Element o b s r (Header name ∷ []) → IsHeader o s r name
  as_header e = at (shape e)
    where
      at : {s r name : Text} → Shape o b s r (Header name ∷ []) → IsHeader o s r name
      at (Shape.header h) = h

  pub as_quiet : {s r : Text} {gives : List Given} → Element o b s r gives → gives ≡ [] → Quiet o b s r
  as_quiet {s} {r} e none = at (subst (Shape o b s r) none (shape e))
    where
      at : {s r : Text} → Shape o b s r [] → Quiet o b s r
      at (Shape.quiet q) = q

  note_front : {w s r : Text} → NoteFront o b w → Note s r → QuietFront o b (w ++ s) r
  note_front {s = s} (NoteFront.indented on i) n = QuietFront.blanks s i
  note_front (NoteFront.alone may late) (Note.note mark all closes) =
      QuietFront.comment mark (IsComment.alone may late (Note.note mark all closes))

  pub quiet_front : {s r : Text} → Quiet o b s r → QuietFront o b s r
  quiet_front (Quiet.anywhere (Free.line c i end)) = QuietFront.blanks (c ∷ []) i
  quiet_front (Quiet.anywhere (Free.white q n)) = QuietFront.white q n
  quiet_front (Quiet.anywhere (Free.comment s one mark all)) =
      QuietFront.comment mark (IsComment.whole s one mark all)
  quiet_front (Quiet.before_header i) = only_blanks i
  quiet_front (Quiet.at_end (Tail.comment one mark all)) =
      QuietFront.comment mark (IsComment.last one mark all)
  quiet_front (Quiet.at_end (Tail.blanks i)) = only_blanks i
  quiet_front (Quiet.at_end (Tail.key s i begins)) = QuietFront.blanks s i
  quiet_front (Quiet.at_line_end front n) = note_front front n

-- within a line such an element is one white character, or a note
pub data WithinLine (o : ParseOption) (c : ℕ) : Text → Text → Type 0 where
  white : {d : ℕ} {r : Text} → is_whitespace d ≡ true → WithinLine o c (d ∷ []) r
  note : {s r : Text} → may_have_note o (c ∷ []) ≡ true → Note s r → WithinLine o c s r

comment_within : {o : ParseOption} {c : ℕ} {s r : Text} → IsComment o (c ∷ []) s r [] → is_line_end c ≡ false
    → WithinLine o c s r
comment_within {c = c} (IsComment.whole s one mark all) within =
    absurd (both_ways (is_line_feed c) (or_parts (is_line_feed c) _ within).0 one)
comment_within {c = c} (IsComment.last one mark all) within =
    absurd (both_ways (is_line_feed c) (or_parts (is_line_feed c) _ within).0 one)
comment_within (IsComment.alone may late n) within = WithinLine.note may n

pub front_within : {o : ParseOption} {c : ℕ} {s r : Text} → QuietFront o (c ∷ []) s r → is_line_end c ≡ false
    → WithinLine o c s r
front_within {c = c} (QuietFront.blanks t i) within =
    absurd (both_ways (is_line_end c) within i.at_line_start)
front_within (QuietFront.white q n) within = WithinLine.white q
front_within (QuietFront.comment mark is) within = comment_within is within
