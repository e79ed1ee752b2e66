-- Rows of comment lines: which texts are such, that they are a gap, and where one begins at a gap's end.
use Rattle.std.proofs.Common.{◌≡◌, ◌≢◌, ◌∙◌, ℕ, Bool, true, false, not, ◌&&◌, ◌||◌, [], ◌∷◌, ◌++◌, ap}
use Rattle.std.proofs.Common.{◌==◌, append_assoc, append-nil, eqb-true, inl, inr, refl, subst, sym}
use Rattle.std.proofs.lemmas.Bool.{and_from, and_parts, cases_Bool, false≢true, not-false, not-true, or_cases}
use Rattle.std.specs.List.{list_all}
use Rattle.std.specs.Prelude.{if◌then◌else◌}
use Rattle.ini_text.specs.Grammar.CharacterKinds.{BeginsWith, carriage_return, is_comment_mark, is_line_feed}
use Rattle.ini_text.specs.Grammar.CharacterKinds.{hash, line_feed, semicolon, space}
use Rattle.ini_text.specs.Grammar.Elements.{Element}
use Rattle.ini_text.specs.Grammar.Pieces.{ArePieces}
use Rattle.ini_text.specs.Grammar.Positions.{last_or}
use Rattle.ini_text.specs.declared.option.ParseOption.{ParseOption}
use Rattle.ini_text.proofs.LawLemmas.PieceLemmas.{last_or-append}
use Rattle.ini.specs.Texts.{Text}
use Rattle.ini_edit.specs.Inside.Spans.{IsGap}
use Rattle.ini_edit.specs.SourceEditsComments.{IsCommentText, lines_of_comment, marked}
use Rattle.ini_edit.specs.SourceLines.{after_comments, are_comments, comments_at_end, is_in_comment}

pub mark_no_feed : (c : ℕ) → is_comment_mark c ≡ true → is_line_feed c ≡ false
mark_no_feed c h =
    elim (or_cases (c == semicolon) (c == hash) h)
    [ inl q ↦ rw (eqb-true c 59 q) refl | inr q ↦ rw (eqb-true c 35 q) refl ]

-- Before r a text is a row of comment lines; `inside` says that it begins within one. LF ends each, or the
-- text's end ends the last.
pub data AreRows : Text → Bool → Text → Type 0 where
  over : {r : Text} → AreRows r false []
  to_end : AreRows [] true []
  on : {r : Text} {inside : Bool} {c : ℕ} {cs : Text} → (inside || is_comment_mark c) ≡ true
      → AreRows r (is_in_comment inside c) cs → AreRows r inside (c ∷ cs)

rows_of : {r : Text} (inside : Bool) (text : Text) → are_comments inside text ≡ true → AreRows r inside text
rows_of {r} inside [] h = subst (λ b. AreRows r b []) (sym (not-true inside h)) AreRows.over
rows_of inside (c ∷ cs) h =
    let parts = and_parts (inside || is_comment_mark c) (are_comments (is_in_comment inside c) cs) h in
    AreRows.on parts.0 (rows_of (is_in_comment inside c) cs parts.1)

-- lines after marks, which go on to a line end, or to the text's end
marked_rows : {r x : Text} (ls : Text) → AreRows r true x → AreRows r true (marked ls ++ x)
marked_rows [] h = h
marked_rows {r} {x} (c ∷ cs) h = at (is_line_feed c) refl (marked_rows cs h)
  where
    at : (b : Bool) → is_line_feed c ≡ b → AreRows r true (marked cs ++ x)
        → AreRows r true ((if b then c ∷ (semicolon ∷ (space ∷ marked cs)) else c ∷ marked cs) ++ x)
    at true feed rest = AreRows.on refl
        (subst (λ b. AreRows r (not b) (semicolon ∷ (space ∷ (marked cs ++ x))))
        (sym feed) (AreRows.on refl (AreRows.on refl rest)))
    at false inner rest = AreRows.on refl (subst (λ b. AreRows r (not b) (marked cs ++ x)) (sym inner) rest)

-- within a comment, before r: a text that begins with the rest of its line
data EndsComment (o : ParseOption) : Text → Text → Type 0 where
  with_feed : {text r : Text} (line rest : Text) → text ≡ line ++ line_feed ∷ rest
      → list_all (λ c. not (is_line_feed c)) line ≡ true → IsGap o line_feed rest r → EndsComment o text r
  at_end : {text : Text} → list_all (λ c. not (is_line_feed c)) text ≡ true → EndsComment o text []

-- whether the comment goes on
in_row : (inside : Bool) (c : ℕ) → (inside || is_comment_mark c) ≡ true
    → is_in_comment inside c ≡ not (is_line_feed c)
in_row inside c h = ap (λ b. b && not (is_line_feed c)) h

module _ {o : ParseOption} where
  no_gap : {c : ℕ} {r : Text} → IsGap o c [] r
  no_gap = record { pieces = []; whole = refl; nothing = refl; are = ArePieces.none }

  comment_then : {c : ℕ} {cs r : Text} (m : ℕ) → is_line_feed c ≡ true → is_comment_mark m ≡ true
      → EndsComment o cs r → IsGap o c (m ∷ cs) r
  comment_then {c} {cs} {r} m one mark (EndsComment.with_feed line rest whole no_feed is) =
      let first = m ∷ (line ++ line_feed ∷ []) in
      record {
        pieces = record { source = first; gives = [] } ∷ is.pieces;
        whole = ap (λ t. m ∷ t) (whole ∙ sym (append_assoc line (line_feed ∷ []) rest))
            ∙ ap (λ t. first ++ t) is.whole;
        nothing = is.nothing;
        are = ArePieces.more (Element.comment line one mark no_feed)
            (subst (λ z. ArePieces o z is.pieces r) (sym (last_or-append m line (line_feed ∷ []))) is.are);
      }
  comment_then {cs = cs} m one mark (EndsComment.at_end no_feed) = record {
    pieces = record { source = m ∷ cs; gives = [] } ∷ [];
    whole = sym (append-nil (m ∷ cs));
    nothing = refl;
    are = ArePieces.more (Element.last_comment one mark no_feed) ArePieces.none;
  }

  comment_on : {cs r : Text} (d : ℕ) → is_line_feed d ≡ false → EndsComment o cs r
      → EndsComment o (d ∷ cs) r
  comment_on d inner (EndsComment.with_feed line rest whole no_feed is) =
      EndsComment.with_feed (d ∷ line) rest (ap (λ t. d ∷ t) whole)
      (and_from (not (is_line_feed d)) (list_all (λ c. not (is_line_feed c)) line) (ap not inner) no_feed) is
  comment_on {cs} d inner (EndsComment.at_end no_feed) = EndsComment.at_end
      (and_from (not (is_line_feed d)) (list_all (λ c. not (is_line_feed c)) cs) (ap not inner) no_feed)

  -- both, of one text
  rows : {r : Text} {inside : Bool} {text : Text} → AreRows r inside text
      → (inside ≡ false → (c : ℕ) → is_line_feed c ≡ true → IsGap o c text r)
      × (inside ≡ true → EndsComment o text r)
  rows AreRows.over = (λ _ c one. no_gap, λ is. absurd (false≢true is))
  rows AreRows.to_end = (λ is. absurd (false≢true (sym is)), λ _. EndsComment.at_end refl)
  rows {r} {inside} (AreRows.on {c = d} {cs = cs} goes rest) =
      let more = rows rest in (
        λ is c one.
            let mark : is_comment_mark d ≡ true = sym (ap (λ b. b || is_comment_mark d) is) ∙ goes in
            comment_then d one mark (more.1 (in_row inside d goes ∙ ap not (mark_no_feed d mark))),
        λ is. elim (cases_Bool (is_line_feed d)) [
          | inl feed ↦ EndsComment.with_feed [] cs (ap (λ c. c ∷ cs) (eqb-true d line_feed feed)) refl
              (more.0 (in_row inside d goes ∙ ap not feed) line_feed refl)
          | inr inner ↦ comment_on d inner (more.1 (in_row inside d goes ∙ ap not inner))
        ],
      )

  -- comment lines in column one are a gap, before any text
  pub comments_gap : {c : ℕ} {r : Text} (text : Text) → is_line_feed c ≡ true
      → are_comments false text ≡ true → IsGap o c text r
  comments_gap {c} text one h = (rows (rows_of false text h)).0 refl c one

  -- and so are lines after marks, which go on to a line end, or to the text's end
  pub marked_gap : {c : ℕ} {r x : Text} (ls : Text) → is_line_feed c ≡ true → AreRows r true x
      → IsGap o c (semicolon ∷ (space ∷ (marked ls ++ x))) r
  marked_gap {c} ls one h = (rows (AreRows.on refl (AreRows.on refl (marked_rows ls h)))).0 refl c one

-- comment lines end with LF
comments_last : (inside : Bool) (c : ℕ) (text : Text) → (inside ≡ false → is_line_feed c ≡ true)
    → are_comments inside text ≡ true → is_line_feed (last_or c text) ≡ true
comments_last inside c [] one h = one (not-true inside h)
comments_last inside c (d ∷ cs) one h =
    let parts = and_parts (inside || is_comment_mark d) (are_comments (is_in_comment inside d) cs) h in
    comments_last (is_in_comment inside d) d cs
    (λ off. not-false (is_line_feed d) (sym (ap (λ b. b && not (is_line_feed d)) parts.0) ∙ off)) parts.1

pub comments_column : (c : ℕ) (text : Text) → is_line_feed c ≡ true → are_comments false text ≡ true
    → is_line_feed (last_or c text) ≡ true
comments_column c text one h = comments_last false c text (λ _. one) h

-- and begin with a mark
pub comments_begin : (text x : Text) → text ≢ [] → are_comments false text ≡ true
    → BeginsWith is_comment_mark (text ++ x)
comments_begin [] x some h = absurd (some refl)
comments_begin (d ∷ cs) x some h =
    (and_parts (is_comment_mark d) (are_comments (is_in_comment false d) cs) h).0

-- of comments all is read, so they are lines where LF ends them, or once it does
goes_in : (inside : Bool) (c : ℕ) (cs : Text) → after_comments inside (c ∷ cs) ≡ []
    → ((inside || is_comment_mark c) ≡ true) × (after_comments (is_in_comment inside c) cs ≡ [])
goes_in inside c cs h = at (inside || is_comment_mark c) refl h
  where
    at : (b : Bool) → (inside || is_comment_mark c) ≡ b
        → (if b then after_comments (is_in_comment inside c) cs else c ∷ cs) ≡ []
        → ((inside || is_comment_mark c) ≡ true) × (after_comments (is_in_comment inside c) cs ≡ [])
    at true is h = (is, h)
    at false is h = absurd (let no : c ∷ cs ≡ [] = h in cc)

pub comments_whole : (inside : Bool) (d : ℕ) (text : Text) → (is_line_feed d ≡ true → inside ≡ false)
    → is_line_feed (last_or d text) ≡ true → after_comments inside text ≡ []
    → are_comments inside text ≡ true
comments_whole inside d [] off one h = ap not (off one)
comments_whole inside d (c ∷ cs) off one h =
    let parts = goes_in inside c cs h in
    and_from (inside || is_comment_mark c) (are_comments (is_in_comment inside c) cs) parts.0
    (comments_whole (is_in_comment inside c) c cs
    (λ feed. ap (λ b. b && not (is_line_feed c)) parts.0 ∙ ap not feed) one parts.1)

-- a line end as it is written
pub data IsNewLine : Text → Type 0 where
  lf : IsNewLine (line_feed ∷ [])
  cr_lf : IsNewLine (carriage_return ∷ (line_feed ∷ []))

line_then : {e : Text} → IsNewLine e → are_comments true e ≡ true
line_then IsNewLine.lf = refl
line_then IsNewLine.cr_lf = refl

pub ends_row : {e r : Text} → IsNewLine e → AreRows r true e
ends_row end = rows_of true _ (line_then end)

pub comments_ended : (inside : Bool) (d : ℕ) (text : Text) {e : Text} → IsNewLine e
    → (is_line_feed d ≡ false → inside ≡ true)
    → is_line_feed (last_or d text) ≡ false → after_comments inside text ≡ []
    → are_comments inside (text ++ e) ≡ true
comments_ended inside d [] {e} end goes inner h =
    subst (λ b. are_comments b e ≡ true) (sym (goes inner)) (line_then end)
comments_ended inside d (c ∷ cs) {e} end goes inner h =
    let parts = goes_in inside c cs h in
    and_from (inside || is_comment_mark c) (are_comments (is_in_comment inside c) (cs ++ e)) parts.0
    (comments_ended (is_in_comment inside c) c cs end
    (λ no. ap (λ b. b && not (is_line_feed c)) parts.0 ∙ ap not no) inner parts.1)

pub comment_lines : {e : Text} (comment : Text) → IsNewLine e → IsCommentText comment
    → are_comments false (lines_of_comment e comment) ≡ true
comment_lines [] end h = refl
comment_lines {e} (c ∷ cs) end h = at (is_line_feed (last_or c cs)) refl
  where
    at : (b : Bool) → is_line_feed (last_or c cs) ≡ b
        → are_comments false ((c ∷ cs) ++ (if b then [] else e)) ≡ true
    at true one = subst (λ t. are_comments false t ≡ true) (sym (append-nil (c ∷ cs)))
        (comments_whole false line_feed (c ∷ cs) (λ _. refl) one h)
    at false inner = comments_ended false line_feed (c ∷ cs) end (λ no. absurd (false≢true (sym no))) inner h

-- the comment lines with which a text ends, after the character d, and what stands before them
pub record EndsInComments (d : ℕ) (text comments : Text) : Type 0 where
  pub front : Text
  pub whole : front ++ comments ≡ text
  pub column : comments ≢ [] → is_line_feed (last_or d front) ≡ true
  pub are : are_comments false comments ≡ true

pub comments_there : (d : ℕ) (text : Text) → EndsInComments d text (comments_at_end d text)
comments_there d [] = record { front = []; whole = refl; column = λ some. absurd (some refl); are = refl }
comments_there d (c ∷ cs) = at (is_line_feed d && are_comments false (c ∷ cs)) refl (comments_there c cs)
  where
    at : (b : Bool) → (is_line_feed d && are_comments false (c ∷ cs)) ≡ b
        → EndsInComments c cs (comments_at_end c cs)
        → EndsInComments d (c ∷ cs) (if b then c ∷ cs else comments_at_end c cs)
    at true is more =
        let parts = and_parts (is_line_feed d) (are_comments false (c ∷ cs)) is in
        record { front = []; whole = refl; column = λ _. parts.0; are = parts.1 }
    at false is more =
        record {
          front = c ∷ more.front;
          whole = ap (λ t. c ∷ t) more.whole;
          column = more.column;
          are = more.are;
        }
