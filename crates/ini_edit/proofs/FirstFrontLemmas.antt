-- What stands in a gap before a section's first pair stands before any text, once its line is ended: the
-- header's own line, comment lines, and blank lines.
use Rattle.std.proofs.Common.{◌≡◌, ◌∙◌, ◌⊎◌, ◌==◌, ◌||◌, ℕ, Bool, true, false, cond, not, List, [], ◌∷◌}
use Rattle.std.proofs.Common.{◌++◌, ap, append_assoc, append-nil, inl, inr, refl, subst, sym}
use Rattle.std.proofs.lemmas.Bool.{and_from, and_parts, both_ways, cond-false, cond-true, false≢true}
use Rattle.std.proofs.lemmas.Bool.{not-true, or_left, or_parts, or_right}
use Rattle.std.specs.Char.{is_whitespace}
use Rattle.std.specs.List.{list_all, list_any}
use Rattle.ini_text.specs.Grammar.CharacterKinds.{BeginsWith, carriage_return, is_comment_mark, is_line_end}
use Rattle.ini_text.specs.Grammar.CharacterKinds.{is_line_feed, line_feed}
use Rattle.ini_text.specs.Grammar.Elements.{Element, Gap, may_have_note}
use Rattle.ini_text.specs.Grammar.Lines.{Note}
use Rattle.ini_text.specs.Grammar.Pieces.{ArePieces, Piece, pieces_items, pieces_text}
use Rattle.ini_text.specs.Grammar.Positions.{is_column_one, last_or}
use Rattle.ini_text.specs.Grammar.Strings.{Closes, is_endpoint, plain_ends}
use Rattle.ini_text.specs.Parsing.Fronts.{front_of}
use Rattle.ini_text.specs.declared.option.ParseOption.{ParseOption}
use Rattle.ini_text.proofs.StringLemmas.FrontLemmas.{front_is}
use Rattle.ini.specs.Texts.{Text}
use Rattle.ini_edit.specs.Inside.Spans.{IsGap}
use Rattle.ini_edit.specs.SourceLines.{after_comments, after_line, after_line_end, after_line_feed}
use Rattle.ini_edit.specs.SourceLines.{are_comments, is_empty, is_in_comment}
use Rattle.ini_edit.proofs.CommentRowLemmas.{IsNewLine, comments_ended, comments_whole}
use Rattle.ini_edit.proofs.GapCutLemmas.{line_past, line_there}
use Rattle.ini_edit.proofs.GapLemmas.{CommentPlace, empty_front, gap_join, gap_more, pieces_place}
use Rattle.ini_edit.proofs.GapPartLemmas.{gap_nothing}
use Rattle.ini_edit.proofs.QuietLemmas.{WithinLine, as_quiet, front_within, note_before, note_closes}
use Rattle.ini_edit.proofs.QuietLemmas.{note_within, quiet_front}
use Rattle.ini_edit.proofs.SourceAddLemmas.{line_ends_gap}
use Rattle.ini_edit.proofs.SourceLineLemmas.{after_line-rest}
use Rattle.ini_edit.proofs.ValueLemmas.{closes_line_end}

-- the line end with which a text begins
pub record IsEndFront (t f : Text) : Type 0 where
  pub whole : f ++ after_line_end t ≡ t
  pub all : list_all is_line_end f ≡ true
  pub some : BeginsWith is_line_end t → is_empty f ≡ false

feed_front : (d : ℕ) (t : Text) → is_line_end d ≡ true → is_line_feed d ≡ true
    → IsEndFront (d ∷ t) (d ∷ [])
feed_front d t end feed =
    record {
      whole = ap (λ r. d ∷ r) (cond-true _ _ _ feed);
      all = and_from (is_line_end d) true end refl;
      some = λ _. refl;
    }

return_front : (d : ℕ) (t : Text) → is_line_end d ≡ true → is_line_feed d ≡ false
    → (f : Text) × IsEndFront (d ∷ t) f
return_front d t end other = at t
  where
    is_return : (a b : Bool) → (a || b) ≡ true → a ≡ false → b ≡ true
    is_return true b h off = absurd (false≢true (sym off))
    is_return false b h off = h

    past : (t : Text) → after_line_end (d ∷ t) ≡ after_line_feed t
    past t = cond-false _ _ _ other ∙ cond-true _ _ _
        (is_return (is_line_feed d) (d == carriage_return) end other)

    at : (t : Text) → (f : Text) × IsEndFront (d ∷ t) f
    at [] = (
      d ∷ [],
      record {
        whole = ap (λ r. d ∷ r) (past []);
        all = and_from (is_line_end d) true end refl;
        some = λ _. refl;
      },
    )
    at (e ∷ u) = by (is_line_feed e) refl
      where
        by : (b : Bool) → is_line_feed e ≡ b → (f : Text) × IsEndFront (d ∷ e ∷ u) f
        by true feed = (
          d ∷ e ∷ [],
          record {
            whole = ap (λ r. d ∷ e ∷ r) (past (e ∷ u) ∙ cond-true _ _ _ feed);
            all = and_from (is_line_end d) _ end (and_from (is_line_end e) true (or_left _ _ feed) refl);
            some = λ _. refl;
          },
        )
        by false apart = (
          d ∷ [],
          record {
            whole = ap (λ r. d ∷ r) (past (e ∷ u) ∙ cond-false _ _ _ apart);
            all = and_from (is_line_end d) true end refl;
            some = λ _. refl;
          },
        )

pub end_front : (t : Text) → (f : Text) × IsEndFront t f
end_front [] = ([], record { whole = refl; all = refl; some = λ h. absurd (false≢true (sym h)) })
end_front (d ∷ t) = by (is_line_end d) (is_line_feed d) refl refl
  where
    by : (e b : Bool) → is_line_end d ≡ e → is_line_feed d ≡ b → (f : Text) × IsEndFront (d ∷ t) f
    by true true end feed = (d ∷ [], feed_front d t end feed)
    by true false end other = return_front d t end other
    by false b within feed =
        let parts = or_parts (is_line_feed d) (d == carriage_return) within in (
          [],
          record {
            whole = cond-false _ _ _ parts.0 ∙ cond-false _ _ _ parts.1;
            all = refl;
            some = λ end. absurd (both_ways (is_line_end d) within end);
          },
        )

-- after a text's first line end what follows it
line_ended : (d : ℕ) (t : Text) → is_line_end d ≡ true → after_line (d ∷ t) ≡ after_line_end (d ∷ t)
line_ended d t end = cond-true (is_line_end d) _ _ end

module _ {o : ParseOption} where
  white_one : {c d : ℕ} {y : Text} → is_whitespace d ≡ true → is_line_end c ≡ false → IsGap o c (d ∷ []) y
  white_one {d = d} white within = record {
    pieces = record { source = d ∷ []; gives = [] } ∷ [];
    whole = refl;
    nothing = refl;
    are = ArePieces.more (Element.gap (Gap.white white (λ _. within))) ArePieces.none;
  }

-- a text's first line, before a text
record IsLineFront (o : ParseOption) (x : Text) (c : ℕ) (t f : Text) : Type 0 where
  whole : f ++ after_line t ≡ t
  is : IsGap o c f x

-- a line ends in the text, or what comes behind its first line closes that
abbrev IsEnded : (t x : Text) → Type 0
IsEnded t x = Closes plain_ends x ⊎ (list_any is_line_end t ≡ true)

any_later : (s t : Text) → list_all (λ c. not (is_line_end c)) s ≡ true
    → list_any is_line_end (s ++ t) ≡ true
    → list_any is_line_end t ≡ true
any_later [] t all h = h
any_later (d ∷ s) t all h =
    let parts = and_parts (not (is_line_end d)) (list_all (λ c. not (is_line_end c)) s) all in
    any_later s t parts.1 (at (is_line_end d) (not-true _ parts.0) h)
  where
    at : {y : Bool} (b : Bool) → b ≡ false → (b || y) ≡ true → y ≡ true
    at true off h = absurd (false≢true (sym off))
    at false off h = h

-- the line end that follows a note closes it
note_ends : (t f y x : Text) → Closes plain_ends (t ++ y) → IsEnded t x → IsEndFront t f
    → Closes plain_ends (f ++ x)
note_ends [] [] y x closes (inl ends) end = ends
note_ends [] [] y x closes (inr none) end = absurd (false≢true none)
note_ends [] (d ∷ f) y x closes ended end = absurd (let no : d ∷ (f ++ []) ≡ [] = end.whole in cc)
note_ends (d ∷ t) [] y x closes ended end =
    absurd (false≢true (sym (end.some (closes_line_end d closes))))
note_ends (d ∷ t) (e ∷ f) y x closes ended end =
    let whole : e ∷ (f ++ after_line_end (d ∷ t)) ≡ d ∷ t = end.whole in
    let same : d ≡ e = cc in
    subst (λ z. is_endpoint plain_ends z ≡ true) same closes

module _ {o : ParseOption} {x : Text} where
  line_front : {c : ℕ} {r : Text} (ps : List Piece) → ArePieces o c ps r → pieces_items ps ≡ []
      → is_line_end c ≡ false → IsEnded (pieces_text ps) x
      → (f : Text) × IsLineFront o x c (pieces_text ps) f
  line_front [] are none within ended = ([], record { whole = refl; is = gap_nothing })
  line_front {c} {r} (p ∷ ps) (ArePieces.more e rest) none within ended =
      let nothing = empty_front p.gives (pieces_items ps) none in
      over (front_within (quiet_front (as_quiet e nothing.0)) within) refl refl ended
      (λ inner later. line_front {c = last_or c p.source} ps rest nothing.1 inner later)
    where
      at : (d : ℕ) → p.source ≡ d ∷ [] → is_whitespace d ≡ true
          → IsEnded (p.source ++ pieces_text ps) x
          → (is_line_end (last_or c p.source) ≡ false → IsEnded (pieces_text ps) x
          → (f : Text) × IsLineFront o x (last_or c p.source) (pieces_text ps) f)
          → (f : Text) × IsLineFront o x c (p.source ++ pieces_text ps) f
      at d is white ended more = by (is_line_end d) refl
        where
          later : is_line_end d ≡ false → IsEnded (p.source ++ pieces_text ps) x → IsEnded (pieces_text ps) x
          later other (inl closes) = inl closes
          later other (inr some) =
              inr (any_later (d ∷ []) (pieces_text ps)
              (and_from (not (is_line_end d)) true (ap not other) refl)
              (subst (λ s. list_any is_line_end (s ++ pieces_text ps) ≡ true) is some))

          by : (b : Bool) → is_line_end d ≡ b → (f : Text) × IsLineFront o x c (p.source ++ pieces_text ps) f
          by true end =
              let e = end_front (d ∷ pieces_text ps) in (
                e.0,
                subst (λ s. IsLineFront o x c (s ++ pieces_text ps) e.0) (sym is) (record {
                  whole = ap (λ t. e.0 ++ t) (line_ended d (pieces_text ps) end) ∙ e.1.whole;
                  is = line_ends_gap e.0 e.1.all;
                }),
              )
          by false other =
              let m = more (subst (λ s. is_line_end (last_or c s) ≡ false) (sym is) other)
              (later other ended) in (
                d ∷ m.0,
                subst (λ s. IsLineFront o x c (s ++ pieces_text ps) (d ∷ m.0)) (sym is) (record {
                  whole = ap (λ t. d ∷ (m.0 ++ t)) (cond-false (is_line_end d) _ _ other)
                      ∙ ap (λ t. d ∷ t) m.1.whole;
                  is = gap_join (white_one white within)
                      (subst (λ s. IsGap o (last_or c s) m.0 x) is m.1.is);
                }),
              )

      -- a note goes up to the line's end
      noted_front : {s z : Text} → may_have_note o (c ∷ []) ≡ true → Note s z → z ≡ pieces_text ps ++ r
          → IsEnded (s ++ pieces_text ps) x → (f : Text) × IsLineFront o x c (s ++ pieces_text ps) f
      noted_front {s} may remark follows ended =
          let t = pieces_text ps in
          let within_note = note_within remark in
          let closes = subst (Closes plain_ends) follows (note_closes remark) in
          let front = end_front t in
          let later : IsEnded t x = elim ended [
            | inl ends ↦ inl ends
            | inr some ↦ inr (any_later s t within_note some)
          ] in
          let late : is_line_feed c ≡ false = (or_parts (is_line_feed c) _ within).0 in
          let after = note_ends t front.0 r x closes later front.1 in (
            s ++ front.0,
            record {
              whole = ap (λ l. (s ++ front.0) ++ l) (line_past s t within_note ∙ sym (line_there t r closes))
                  ∙ append_assoc s front.0 (after_line_end t) ∙ ap (λ l. s ++ l) front.1.whole;
              is = gap_more (Element.note may late (note_before (front.0 ++ x) after remark))
                  (line_ends_gap front.0 front.1.all);
            },
          )

      over : {s z : Text} → WithinLine o c s z → p.source ≡ s → z ≡ pieces_text ps ++ r
          → IsEnded (p.source ++ pieces_text ps) x
          → (is_line_end (last_or c p.source) ≡ false → IsEnded (pieces_text ps) x
          → (f : Text) × IsLineFront o x (last_or c p.source) (pieces_text ps) f)
          → (f : Text) × IsLineFront o x c (p.source ++ pieces_text ps) f
      over (WithinLine.white {d} white) is follows ended more = at d is white ended more
      over {s} (WithinLine.note may remark) is follows ended more =
          subst (λ s. (f : Text) × IsLineFront o x c (s ++ pieces_text ps) f) (sym is)
          (noted_front may remark follows
          (subst (λ s. IsEnded (s ++ pieces_text ps) x) is ended))

  -- the header's own line stands before any text, or, where a note ends it, before what closes it
  pub line_any : {c : ℕ} {gap r : Text} → (is_line_end c ≡ false) ⊎ BeginsWith is_line_end gap
      → Closes plain_ends x ⊎ (is_line_end (last_or c (front_of gap (after_line gap))) ≡ true)
      → IsGap o c gap r → IsGap o c (front_of gap (after_line gap)) x
  line_any {c} {gap} {r} named ended h = elim named [
    | inl within ↦
        let l = line_front h.pieces h.are h.nothing within
        (subst (λ t. IsEnded t x) h.whole (ended_there within ended)) in
        subst (λ t. IsGap o c (front_of t (after_line t)) x) (sym h.whole)
        (subst (λ f. IsGap o c f x)
        (sym (front_is l.0 (after_line (pieces_text h.pieces)) (pieces_text h.pieces) l.1.whole)) l.1.is)
    | inr begins ↦ at gap begins
  ]
    where
      last_any : (c : ℕ) (f t : Text) → is_line_end c ≡ false → is_line_end (last_or c f) ≡ true
          → list_any is_line_end (f ++ t) ≡ true
      last_any c [] t within end = absurd (both_ways (is_line_end c) within end)
      last_any c (d ∷ f) t within end = by (is_line_end d) refl (λ other. last_any d f t other end)
        where
          by : (b : Bool) → is_line_end d ≡ b
              → (is_line_end d ≡ false → list_any is_line_end (f ++ t) ≡ true)
              → (is_line_end d || list_any is_line_end (f ++ t)) ≡ true
          by true is more = or_left (is_line_end d) _ is
          by false is more = or_right (is_line_end d) _ (more is)

      ended_there : is_line_end c ≡ false
          → Closes plain_ends x ⊎ (is_line_end (last_or c (front_of gap (after_line gap))) ≡ true)
          → IsEnded gap x
      ended_there within (inl closes) = inl closes
      ended_there within (inr end) =
          inr (subst (λ t. list_any is_line_end t ≡ true) (after_line-rest gap)
          (last_any c (front_of gap (after_line gap)) (after_line gap) within end))

      at : (gap : Text) → BeginsWith is_line_end gap → IsGap o c (front_of gap (after_line gap)) x
      at [] begins = absurd (false≢true (sym begins))
      at (d ∷ t) begins =
          let e = end_front (d ∷ t) in
          subst (λ f. IsGap o c f x)
          (sym (front_is e.0 (after_line (d ∷ t)) (d ∷ t)
          (ap (λ t. e.0 ++ t) (line_ended d t begins) ∙ e.1.whole)))
          (line_ends_gap e.0 e.1.all)

-- where the gap begins with a line end, that line has it
pub line_some : (gap : Text) → BeginsWith is_line_end gap → is_empty (front_of gap (after_line gap)) ≡ false
line_some [] begins = absurd (false≢true (sym begins))
line_some (d ∷ t) begins =
    let e = end_front (d ∷ t) in
    ap is_empty (front_is e.0 (after_line (d ∷ t)) (d ∷ t)
    (ap (λ t. e.0 ++ t) (line_ended d t begins) ∙ e.1.whole))
    ∙ e.1.some begins

-- the comment lines with which a text begins
pub record IsCommentFront (inside : Bool) (t f : Text) : Type 0 where
  pub whole : f ++ after_comments inside t ≡ t
  pub all : after_comments inside f ≡ []

pub comment_front : (inside : Bool) (t : Text) → (f : Text) × IsCommentFront inside t f
comment_front inside [] = ([], record { whole = refl; all = refl })
comment_front inside (c ∷ cs) =
    by (inside || is_comment_mark c) refl (comment_front (is_in_comment inside c) cs)
  where
    by : (b : Bool) → (inside || is_comment_mark c) ≡ b
        → (f : Text) × IsCommentFront (is_in_comment inside c) cs f
        → (f : Text) × IsCommentFront inside (c ∷ cs) f
    by true goes m = (
      c ∷ m.0,
      record {
        whole = ap (λ t. c ∷ (m.0 ++ t)) (cond-true _ _ _ goes) ∙ ap (λ t. c ∷ t) m.1.whole;
        all = cond-true _ _ _ goes ∙ m.1.all;
      },
    )
    by false off m = ([], record { whole = cond-false _ _ _ off; all = refl })

-- they are such lines once the last is ended
pub comments_glued : {e : Text} (t : Text) → IsNewLine e → after_comments false t ≡ []
    → are_comments false (t ++ cond (is_column_one t) [] e) ≡ true
comments_glued {e} t end all = by (is_column_one t) refl
  where
    by : (b : Bool) → is_column_one t ≡ b → are_comments false (t ++ cond b [] e) ≡ true
    by true one =
        subst (λ s. are_comments false s ≡ true) (sym (append-nil t))
        (comments_whole false line_feed t (λ _. refl) one all)
    by false inner =
        comments_ended false line_feed t end (λ no. absurd (false≢true (sym no))) inner all

-- where a gap stands that begins with comment lines
pub comments_place : {o : ParseOption} {c : ℕ} {gap r : Text} (f rest : Text) → f ++ rest ≡ gap
    → BeginsWith is_comment_mark (f ++ rest) → IsGap o c gap r → CommentPlace o (c ∷ [])
comments_place f rest whole mark h =
    pieces_place h.pieces h.are (subst (BeginsWith is_comment_mark) (whole ∙ h.whole) mark)
