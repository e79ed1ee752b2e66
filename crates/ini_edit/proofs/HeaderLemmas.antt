-- Headers: what begins with one; one before a line end; and one under another name, read where the old was.
use Rattle.std.proofs.Common.{◌≡◌, ◌≢◌, ◌∙◌, ◌==◌, ◌&&◌, ◌||◌, ℕ, Bool, true, false, [], ◌∷◌, ◌++◌, ap}
use Rattle.std.proofs.Common.{append_assoc, append-nil, refl, subst, sym}
use Rattle.std.proofs.lemmas.Bool.{and_from, and_left, and_parts, cond-false, cond-true, false≢true}
use Rattle.std.specs.List.{list_all}
use Rattle.ini_text.specs.Options.Backslashes.{begins_escape}
use Rattle.ini_text.specs.Options.ReadOptions.{backslash_of}
use Rattle.ini_text.specs.declared.option.ParseOption.{ParseOption}
use Rattle.ini_text.specs.declared.write.policy.EscapePolicy.{EscapePolicy}
use Rattle.ini_text.specs.Escaping.EscapedTexts.{escaped}
use Rattle.ini_text.specs.Grammar.CharacterKinds.{BeginsWith, begins, carriage_return, close_bracket}
use Rattle.ini_text.specs.Grammar.CharacterKinds.{is_blank, is_comment_mark, is_inline_white, is_line_end}
use Rattle.ini_text.specs.Grammar.CharacterKinds.{line_feed, open_bracket}
use Rattle.ini_text.specs.Grammar.Elements.{Header, Element}
use Rattle.ini_text.specs.Grammar.Positions.{last_or}
use Rattle.ini_text.specs.Grammar.Strings.{Closes, Ends, Row, Str, bracketed_name_ends, is_before_note}
use Rattle.ini_text.specs.Grammar.Strings.{noted, plain_ends}
use Rattle.ini_text.specs.Laws.Plain.{IsPlainName}
use Rattle.ini_text.proofs.LawLemmas.OneAheadLemmas.{Alike, Str-alike}
use Rattle.ini_text.proofs.PlainLemmas.EscapedTextLemmas.{all_read, row_escaped}
use Rattle.ini_text.proofs.PlainLemmas.PlainLineLemmas.{header_element}
use Rattle.ini_text.proofs.PlainLemmas.PlainPairLemmas.{inline_blanks, value_no_end}
use Rattle.ini_text.proofs.ReaderLemmas.StringReaderLemmas.{note_parts}
use Rattle.ini_text.proofs.StringLemmas.ScanLemmas.{last_or_append}
use Rattle.ini.specs.Texts.{Text}
use Rattle.ini_edit.specs.Places.{Follows}
use Rattle.ini_edit.specs.Sections.{header_of}
use Rattle.ini_edit.specs.SourceLines.{blanks_at_end}
use Rattle.ini_edit.proofs.GluedLemmas.{str_row}
use Rattle.ini_edit.proofs.PadLemmas.{EndsInBlank, blank_at_end, no_note_follows, white_inside, white_no_note}
use Rattle.ini_edit.proofs.QuietLemmas.{IsHeader, line_end_no_mark}
use Rattle.ini_edit.proofs.ValueLemmas.{closes_line_end}

-- a text is empty, or begins with a header
pub data EmptyOrHeader : Text → Type 0 where
  empty : EmptyOrHeader []
  header : (r : Text) → EmptyOrHeader (open_bracket ∷ r)

pub header_follows : {o : ParseOption} {x : Text} → EmptyOrHeader x → Follows o x
header_follows EmptyOrHeader.empty = record { no_blank = λ _. tt; no_line_end = λ _. tt }
header_follows (EmptyOrHeader.header r) = record { no_blank = λ _. refl; no_line_end = λ _. refl }

-- a header's source begins with a bracket
pub header_bracket : {o : ParseOption} {s r name : Text} → IsHeader o s r name
    → BeginsWith (λ c. c == open_bracket) s
header_bracket (IsHeader.plain off str) = refl
header_bracket (IsHeader.bracketed on str i) = refl

pub plain_closes : (r : Text) → Closes bracketed_name_ends r → Closes plain_ends r
plain_closes [] h = absurd (false≢true h)
plain_closes (c ∷ r) h = h

-- what a string with brackets is before: a line end, or a note behind a blank
pub data NameEnds (o : ParseOption) : Text → Text → Text → Type 0 where
  closed : {s r v : Text} → Row (backslash_of o) (noted o bracketed_name_ends) s v
      → Closes bracketed_name_ends r → NameEnds o s r v
  before : {s r v : Text} (c : ℕ) → Row (backslash_of o) (noted o bracketed_name_ends) s v
      → o.enabled_inline_comment ≡ true → begins_escape (backslash_of o) c ≡ false → is_blank c ≡ true
      → begins is_comment_mark r ≡ true → NameEnds o (s ++ c ∷ []) r (v ++ c ∷ [])

pub name_ends : {o : ParseOption} {s r v : Text} → Str (backslash_of o) (noted o bracketed_name_ends) s r v
    → NameEnds o s r v
name_ends (Str.closed row h) = NameEnds.closed row h
name_ends {o} {r = r} (Str.before_note c row raw inside note) =
    let parts = note_parts (noted o bracketed_name_ends) c r note in
    NameEnds.before c row parts.0 raw parts.1 parts.2
name_ends (Str.lone special row h) = absurd (false≢true h)

mark_some : (r : Text) → begins is_comment_mark r ≡ true → r ≢ []
mark_some [] mark none = false≢true mark
mark_some (c ∷ r) mark none = cc

closed_some : (r : Text) → Closes bracketed_name_ends r → r ≢ []
closed_some [] closes none = false≢true closes
closed_some (c ∷ r) closes none = cc

-- a header before a line end
pub header_closed : {o : ParseOption} {b s y x name : Text} → BeginsWith is_line_end x → IsHeader o s y name
    → Element o b s x (Header name ∷ [])
header_closed begins (IsHeader.plain off str) = Element.header off (Str-alike Alike.same str)
header_closed {o} {x = x} begins (IsHeader.bracketed on str i) =
    Element.bracketed_header on (Str.closed (row_of str) (closes x begins)) i
  where
    closes : (x : Text) → BeginsWith is_line_end x → Closes bracketed_name_ends x
    closes [] begins = absurd (false≢true (sym begins))
    closes (c ∷ x) begins = by (c == line_feed) (c == carriage_return) begins
      where
        by : (a b : Bool) → (a || b) ≡ true → (a || (b || false)) ≡ true
        by true b h = refl
        by false true h = refl
        by false false h = h

    row_of : {s r v : Text} → Str (backslash_of o) (noted o bracketed_name_ends) s r v
        → Row (backslash_of o) (noted o bracketed_name_ends) s v
    row_of {r = r} (Str.closed row h) = row
    row_of {r = r} (Str.before_note c row raw inside note) =
        str_row (mark_some r (note_parts (noted o bracketed_name_ends) c r note).2)
        (Str.before_note c row raw inside note)
    row_of (Str.lone special row h) = absurd (false≢true h)

-- blanks at the end of a text
pub blanks_all : (t : Text) → list_all is_blank (blanks_at_end t) ≡ true
blanks_all [] = refl
blanks_all (c ∷ cs) = at (list_all is_blank (c ∷ cs)) refl (blanks_all cs)
  where
    at : (b : Bool) → list_all is_blank (c ∷ cs) ≡ b → list_all is_blank (blanks_at_end cs) ≡ true
        → list_all is_blank (blanks_at_end (c ∷ cs)) ≡ true
    at true all later = ap (list_all is_blank) (cond-true (list_all is_blank (c ∷ cs)) _ _ all) ∙ all
    at false other later =
        ap (list_all is_blank) (cond-false (list_all is_blank (c ∷ cs)) _ _ other) ∙ later

last_not_blank : (t : Text) (d : ℕ) → is_blank d ≡ false → list_all is_blank (t ++ d ∷ []) ≡ false
last_not_blank [] d other = and_left (is_blank d) true other
last_not_blank (c ∷ t) d other = at (is_blank c) (last_not_blank t d other)
  where
    at : {x : Bool} (b : Bool) → x ≡ false → (b && x) ≡ false
    at true h = h
    at false h = refl

pub no_blanks : (t : Text) (d : ℕ) → is_blank d ≡ false → blanks_at_end (t ++ d ∷ []) ≡ []
no_blanks [] d other = cond-false (list_all is_blank (d ∷ [])) _ _ (and_left (is_blank d) true other)
no_blanks (c ∷ t) d other =
    cond-false (list_all is_blank (c ∷ (t ++ d ∷ []))) _ _ (last_not_blank (c ∷ t) d other)
    ∙ no_blanks t d other

-- where a blank stands last, they are some, and end with it
pub blanks_last : (t : Text) (d c : ℕ) → is_blank d ≡ true → last_or c (blanks_at_end (t ++ d ∷ [])) ≡ d
blanks_last [] d c blank =
    ap (last_or c) (cond-true (list_all is_blank (d ∷ [])) _ _ (and_from (is_blank d) true blank refl))
blanks_last (x ∷ t) d c blank =
    at (list_all is_blank (x ∷ (t ++ d ∷ []))) refl (blanks_last t d c blank)
  where
    at : (b : Bool) → list_all is_blank (x ∷ (t ++ d ∷ [])) ≡ b
        → last_or c (blanks_at_end (t ++ d ∷ [])) ≡ d
        → last_or c (blanks_at_end (x ∷ (t ++ d ∷ []))) ≡ d
    at true all later =
        ap (last_or c) (cond-true (list_all is_blank (x ∷ (t ++ d ∷ []))) _ _ all)
        ∙ last_or_append c d (x ∷ t)
    at false other later =
        ap (last_or c) (cond-false (list_all is_blank (x ∷ (t ++ d ∷ []))) _ _ other) ∙ later

pub blanks_end : (t : Text) (d : ℕ) → is_blank d ≡ true → EndsInBlank (blanks_at_end (t ++ d ∷ []))
blanks_end t d blank =
    let w = blanks_at_end (t ++ d ∷ []) in
    blank_at_end w (inline_blanks w (blanks_all (t ++ d ∷ [])))
    (ap is_blank (blanks_last t d line_feed blank) ∙ blank)

-- they are a row
white_name : (o : ParseOption) (w : Text) → list_all is_inline_white w ≡ true
    → Row (backslash_of o) (noted o bracketed_name_ends) w w
white_name o [] all = Row.none
white_name o (c ∷ w) all =
    let parts = and_parts (is_inline_white c) (list_all is_inline_white w) all in
    let inside = white_inside (backslash_of o) c parts.0 in
    Row.raw inside.0 inside.1 (no_note_follows (noted o bracketed_name_ends) c w (white_no_note w parts.1))
    (white_name o w parts.1)

-- the blanks that stay behind a header, by what follows it
pub record StayBehind (s r blanks : Text) : Type 0 where
  pub behind : begins is_comment_mark r ≡ true → blanks ≡ blanks_at_end s
  pub bare : begins is_comment_mark r ≡ false → blanks ≡ []

pub closes_no_mark : (r : Text) → Closes bracketed_name_ends r → begins is_comment_mark r ≡ false
closes_no_mark [] closes = refl
closes_no_mark (c ∷ r) closes = line_end_no_mark c (closes_line_end c closes)

-- none behind a closing bracket
pub plain_bare : (s r blanks : Text) → StayBehind (s ++ close_bracket ∷ []) r blanks → blanks ≡ []
plain_bare s r blanks stay = at (begins is_comment_mark r) refl
  where
    at : (x : Bool) → begins is_comment_mark r ≡ x → blanks ≡ []
    at true mark = stay.behind mark ∙ no_blanks s close_bracket refl
    at false other = stay.bare other

-- the new header is read where the old one was
module _ {o : ParseOption} (policy : EscapePolicy) (new : Text) (p : IsPlainName o policy new) where
  name_row : {t v : Text} → o.enabled_brackets_in_section_names ≡ true
      → Row (backslash_of o) (noted o bracketed_name_ends) t v
      → Row (backslash_of o) (noted o bracketed_name_ends) (escaped policy new ++ close_bracket ∷ t)
      (new ++ close_bracket ∷ v)
  name_row {t} on rest =
      let all = all_read {o = o} policy new p.read_back in
      row_escaped new all (value_no_end all) (p.no_note on) refl
      (Row.raw refl refl (bracket_no_note (noted o bracketed_name_ends) t) rest)
    where
      bracket_no_note : (ends : Ends) (t : Text) → is_before_note ends close_bracket t ≡ false
      bracket_no_note ends t = at ends.notes
        where
          at : (b : Bool) → (b && false) ≡ false
          at true = refl
          at false = refl

  pub bracketed : {b r : Text} → o.enabled_brackets_in_section_names ≡ true → Closes bracketed_name_ends r
      → Element o b (header_of policy new) r (Header new ∷ [])
  bracketed {b} {r} on closes =
      subst (λ n. Element o b (header_of policy new) r (Header n ∷ [])) p.is_trimmed
      (Element.bracketed_header on (Str.closed (name_row on Row.none) closes)
      (record { blanks = []; blank = refl; whole = refl }))

  -- before a note, with blanks behind it
  before_note : {b r blanks : Text} → o.enabled_brackets_in_section_names ≡ true
      → o.enabled_inline_comment ≡ true → begins is_comment_mark r ≡ true → EndsInBlank blanks
      → list_all is_blank blanks ≡ true → Element o b (header_of policy new ++ blanks) r (Header new ∷ [])
  before_note {b} {r} {blanks} on notes mark ends all =
      let w = ends.front in
      let c = ends.blank in
      let inside = white_inside (backslash_of o) c (and_parts (is_inline_white c) true
      (inline_blanks (c ∷ []) (and_from (is_blank c) true ends.is_blank refl))).0 in
      let note : is_before_note (noted o bracketed_name_ends) c r ≡ true =
      and_from o.enabled_inline_comment _ notes (and_from (is_blank c) _ ends.is_blank mark) in
      let str = Str.before_note c (name_row on (white_name o w ends.white)) inside.0 inside.1 note in
      let seam : (x : Text) → (x ++ close_bracket ∷ w) ++ c ∷ [] ≡ (x ++ close_bracket ∷ []) ++ blanks = λ x.
      append_assoc x (close_bracket ∷ w) (c ∷ []) ∙ ap (λ z. x ++ close_bracket ∷ z) (sym ends.whole)
      ∙ sym (append_assoc x (close_bracket ∷ []) blanks) in
      let whole : (new ++ close_bracket ∷ w) ++ c ∷ [] ≡ new ++ close_bracket ∷ blanks =
      append_assoc new (close_bracket ∷ w) (c ∷ [])
      ∙ ap (λ z. new ++ close_bracket ∷ z) (sym ends.whole) in
      subst (λ s. Element o b (open_bracket ∷ s) r (Header new ∷ [])) (seam (escaped policy new))
      (subst (λ n. Element o b (open_bracket ∷ ((escaped policy new ++ close_bracket ∷ w) ++ c ∷ [])) r
      (Header n ∷ [])) p.is_trimmed
      (Element.bracketed_header on str (record { blanks = blanks; blank = all; whole = whole })))

  pub header_anew : {b s r name blanks : Text} → StayBehind s r blanks → IsHeader o s r name
      → Element o b (header_of policy new ++ blanks) r (Header new ∷ [])
  header_anew {b} {r = r} {blanks = blanks} stay (IsHeader.plain {s = s} off str) =
      let none = plain_bare (open_bracket ∷ s) r blanks stay in
      subst (λ t. Element o b t r (Header new ∷ []))
      (sym (append-nil (header_of policy new)) ∙ ap (λ z. header_of policy new ++ z) (sym none))
      (header_element policy new off p)
  header_anew {b} {blanks = blanks} stay (IsHeader.bracketed on str i) = at stay (name_ends str)
    where
      at : {s r v : Text} → StayBehind (open_bracket ∷ s) r blanks → NameEnds o s r v
          → Element o b (header_of policy new ++ blanks) r (Header new ∷ [])
      at {r = r} stay (NameEnds.closed row closes) =
          subst (λ t. Element o b t r (Header new ∷ []))
          (sym (append-nil (header_of policy new))
          ∙ ap (λ z. header_of policy new ++ z) (sym (stay.bare (closes_no_mark r closes))))
          (bracketed on closes)
      at {r = r} stay (NameEnds.before {s} c row notes raw blank mark) =
          let is = stay.behind mark in
          before_note on notes mark (subst EndsInBlank (sym is) (blanks_end (open_bracket ∷ s) c blank))
          (ap (list_all is_blank) is ∙ blanks_all (open_bracket ∷ (s ++ c ∷ [])))
