-- Gaps cut where the words for lines cut them: after a header's own line, after a line end, after comments,
-- and after blank lines. Each is an end of an element.
use Rattle.std.proofs.Common.{◌≡◌, ◌∙◌, ◌≤◌, ◌⊎◌, ◌==◌, ◌||◌, ℕ, Bool, true, false, cond, not, List, [], ◌∷◌}
use Rattle.std.proofs.Common.{◌++◌, ap, append_assoc, append-nil, arith, eqb-true, inl, inr, length, refl}
use Rattle.std.proofs.Common.{subst, sym}
use Rattle.std.proofs.lemmas.Bool.{and_from, and_parts, both_ways, cond-false, cond-true, false≢true, or_left}
use Rattle.std.proofs.lemmas.Bool.{false_from_ne_true, not-true, not_from_false, or_from, or_parts, or_right}
use Rattle.std.specs.List.{list_all}
use Rattle.ini_text.specs.Grammar.CharacterKinds.{BeginsWith, BeginsWithNo, carriage_return, is_blank}
use Rattle.ini_text.specs.Grammar.CharacterKinds.{is_comment_mark, is_line_end, is_line_feed, line_feed}
use Rattle.ini_text.specs.Grammar.CharacterKinds.{open_bracket}
use Rattle.ini_text.specs.Grammar.Elements.{Given}
use Rattle.ini_text.specs.Grammar.Keys.{begins_indented_key, begins_note}
use Rattle.ini_text.specs.Grammar.Lines.{Note}
use Rattle.ini_text.specs.Grammar.Pieces.{ArePieces, Piece, pieces_items, pieces_text}
use Rattle.ini_text.specs.Grammar.Positions.{last_or}
use Rattle.ini_text.specs.Grammar.Strings.{Closes, plain_ends}
use Rattle.ini_text.specs.Parsing.Fronts.{front_of}
use Rattle.ini_text.specs.declared.option.ParseOption.{ParseOption}
use Rattle.ini_text.proofs.GrammarLemmas.ItemLemmas.{element-some}
use Rattle.ini_text.proofs.GrammarLemmas.KindLemmas.{comment_mark-apart}
use Rattle.ini_text.proofs.LawLemmas.PieceLemmas.{last_or-append, pieces_items-append, pieces_split}
use Rattle.ini_text.proofs.LawLemmas.PieceLemmas.{pieces_text-append}
use Rattle.ini_text.proofs.StringLemmas.FrontLemmas.{front_is}
use Rattle.ini.specs.Texts.{Text}
use Rattle.ini_edit.specs.Inside.Spans.{IsGap}
use Rattle.ini_edit.specs.SourceLines.{is_blank_or_line_end, after_blank_lines, after_comments, after_line}
use Rattle.ini_edit.specs.SourceLines.{after_line_end, after_line_feed, blanks_at_end}
use Rattle.ini_edit.proofs.CommentLemmas.{marked_comment}
use Rattle.ini_edit.proofs.GapLemmas.{empty_front, line_end_element}
use Rattle.ini_edit.proofs.QuietLemmas.{Free, IsComment, NoteFront, Quiet, Tail, as_quiet, mark_no_end}
use Rattle.ini_edit.proofs.QuietLemmas.{WithinLine, front_within, note_closes, note_within, quiet_front}
use Rattle.ini_edit.proofs.ValueLemmas.{closes_line_end}

-- pieces, of which the text from one on is this
pub record IsCut (ps : List Piece) (m : Text) : Type 0 where
  pub front : List Piece
  pub rest : List Piece
  pub whole : ps ≡ front ++ rest
  pub text : pieces_text rest ≡ m

cut_here : {m : Text} (ps : List Piece) → pieces_text ps ≡ m → IsCut ps m
cut_here ps is = record { front = []; rest = ps; whole = refl; text = is }

cut_later : {ps : List Piece} {m n : Text} (p : Piece) → m ≡ n → IsCut ps m → IsCut (p ∷ ps) n
cut_later p is cut = record {
  front = p ∷ cut.front;
  rest = cut.rest;
  whole = ap (λ l. p ∷ l) cut.whole;
  text = cut.text ∙ is;
}

-- a second cut of what follows the first
pub cut_on : {ps : List Piece} {m n : Text} (cut : IsCut ps m) → IsCut cut.rest n → IsCut ps n
cut_on cut later = record {
  front = cut.front ++ later.front;
  rest = later.rest;
  whole = cut.whole ∙ ap (λ l. cut.front ++ l) later.whole
      ∙ sym (append_assoc cut.front later.front later.rest);
  text = later.text;
}

-- both parts of the gap stand
pub record AreParts (o : ParseOption) (c : ℕ) (gap m r : Text) : Type 0 where
  pub whole : front_of gap m ++ m ≡ gap
  pub front : IsGap o c (front_of gap m) (m ++ r)
  pub rest : IsGap o (last_or c (front_of gap m)) m r

pub cut_gap : {o : ParseOption} {c : ℕ} {gap m r : Text} (h : IsGap o c gap r) → IsCut h.pieces m
    → AreParts o c gap m r
cut_gap {o} {c} {gap} {m} {r} h cut =
    let are = subst (λ l. ArePieces o c l r) cut.whole h.are in
    let split = pieces_split cut.front cut.rest are in
    let nothing = empty_front (pieces_items cut.front) (pieces_items cut.rest)
    (sym (pieces_items-append cut.front cut.rest) ∙ ap pieces_items (sym cut.whole) ∙ h.nothing) in
    let whole : pieces_text cut.front ++ m ≡ gap =
    ap (λ t. pieces_text cut.front ++ t) (sym cut.text) ∙ sym (pieces_text-append cut.front cut.rest)
    ∙ ap pieces_text (sym cut.whole) ∙ sym h.whole in
    let is = front_is (pieces_text cut.front) m gap whole in
    record {
      whole = ap (λ t. t ++ m) is ∙ whole;
      front = record {
        pieces = cut.front;
        whole = is;
        nothing = nothing.0;
        are = subst (λ t. ArePieces o c cut.front (t ++ r)) cut.text split.0;
      };
      rest = record {
        pieces = cut.rest;
        whole = sym cut.text;
        nothing = nothing.1;
        are = subst (λ f. ArePieces o (last_or c f) cut.rest r) (sym is) split.1;
      };
    }

-- what follows a cut
pub record IsRestGap (o : ParseOption) (r m : Text) (ps : List Piece) : Type 0 where
  pub before : ℕ
  pub are : ArePieces o before ps r
  pub nothing : pieces_items ps ≡ []
  pub text : pieces_text ps ≡ m

pub cut_rest_gap : {o : ParseOption} {c : ℕ} {r m : Text} (ps : List Piece) → ArePieces o c ps r
    → pieces_items ps ≡ []
    → (cut : IsCut ps m) → IsRestGap o r m cut.rest
cut_rest_gap {o} {c} {r} ps are nothing cut = record {
  before = last_or c (pieces_text cut.front);
  are = (pieces_split cut.front cut.rest (subst (λ l. ArePieces o c l r) cut.whole are)).1;
  nothing = (empty_front (pieces_items cut.front) (pieces_items cut.rest)
      (sym (pieces_items-append cut.front cut.rest) ∙ ap pieces_items (sym cut.whole) ∙ nothing)).1;
  text = cut.text;
}

one_character : (x : ℕ) (s : Text) → length (x ∷ s) ≡ 1 → s ≡ []
one_character x [] h = refl
one_character x (y ∷ s) h = absurd (omega arith)

ended_line : (t : Text) → BeginsWith is_line_end t → after_line_end t ≡ after_line t
ended_line [] h = refl
ended_line (c ∷ t) h = sym (cond-true (is_line_end c) _ _ h)

-- what ends no line stands before a line's end
pub line_past : (s t : Text) → list_all (λ c. not (is_line_end c)) s ≡ true
    → after_line (s ++ t) ≡ after_line t
line_past [] t all = refl
line_past (c ∷ s) t all =
    let parts = and_parts (not (is_line_end c)) (list_all (λ c. not (is_line_end c)) s) all in
    cond-false (is_line_end c) _ _ (not-true (is_line_end c) parts.0) ∙ line_past s t parts.1

pub line_there : (t r : Text) → Closes plain_ends (t ++ r) → after_line_end t ≡ after_line t
line_there [] r closes = refl
line_there (d ∷ t) r closes = ended_line (d ∷ t) (closes_line_end d closes)

module _ {o : ParseOption} where
  -- after a line feed, and after a line end
  feed_cut : {c : ℕ} {r : Text} (ps : List Piece) → ArePieces o c ps r → pieces_items ps ≡ []
      → IsCut ps (after_line_feed (pieces_text ps))
  feed_cut [] are none = cut_here [] refl
  feed_cut {c} (p ∷ ps) (ArePieces.more e rest) none =
      at p.source refl (element-some e)
      (line_end_element (quiet_front (as_quiet e (empty_front p.gives (pieces_items ps) none).0)))
    where
      at : (s : Text) → p.source ≡ s → 1 ≤ length s → (BeginsWith is_line_end p.source → length p.source ≡ 1)
          → IsCut (p ∷ ps) (after_line_feed (p.source ++ pieces_text ps))
      at [] is some one = absurd (omega arith)
      at (x ∷ s) is some one = by (is_line_feed x) refl
        where
          by : (b : Bool) → is_line_feed x ≡ b → IsCut (p ∷ ps) (after_line_feed
              (p.source ++ pieces_text ps))
          by false other =
              cut_here (p ∷ ps) (sym (ap (λ t. after_line_feed (t ++ pieces_text ps)) is
              ∙ cond-false _ _ _ other ∙ ap (λ t. t ++ pieces_text ps) (sym is)))
          by true feed =
              let alone = one_character x s (ap length (sym is)
              ∙ one (subst (BeginsWith is_line_end) (sym is) (or_left (is_line_feed x) _ feed))) in
              cut_later p (sym (ap (λ t. after_line_feed (t ++ pieces_text ps)) is
              ∙ cond-true _ _ _ feed ∙ ap (λ t. t ++ pieces_text ps) alone)) (cut_here ps refl)

  pub end_cut : {c : ℕ} {r : Text} (ps : List Piece) → ArePieces o c ps r → pieces_items ps ≡ []
      → IsCut ps (after_line_end (pieces_text ps))
  end_cut [] are none = cut_here [] refl
  end_cut {c} (p ∷ ps) (ArePieces.more e rest) none =
      let parts = empty_front p.gives (pieces_items ps) none in
      at p.source refl (element-some e) (line_end_element (quiet_front (as_quiet e parts.0)))
      (feed_cut ps rest parts.1)
    where
      at : (s : Text) → p.source ≡ s → 1 ≤ length s → (BeginsWith is_line_end p.source → length p.source ≡ 1)
          → IsCut ps (after_line_feed (pieces_text ps))
          → IsCut (p ∷ ps) (after_line_end (p.source ++ pieces_text ps))
      at [] is some one after = absurd (omega arith)
      at (x ∷ s) is some one after = by (is_line_feed x) (x == carriage_return) refl refl
        where
          alone : is_line_end x ≡ true → s ≡ []
          alone end = one_character x s (ap length (sym is) ∙ one (subst (BeginsWith is_line_end)
              (sym is) end))

          by : (a b : Bool) → is_line_feed x ≡ a → (x == carriage_return) ≡ b
              → IsCut (p ∷ ps) (after_line_end (p.source ++ pieces_text ps))
          by true b feed h =
              cut_later p (sym (ap (λ t. after_line_end (t ++ pieces_text ps)) is ∙ cond-true _ _ _ feed
              ∙ ap (λ t. t ++ pieces_text ps) (alone (or_left (is_line_feed x) _ feed)))) (cut_here ps refl)
          by false true feed h =
              cut_later p (sym (ap (λ t. after_line_end (t ++ pieces_text ps)) is ∙ cond-false _ _ _ feed
              ∙ cond-true _ _ _ h
              ∙ ap (λ t. after_line_feed (t ++ pieces_text ps)) (alone (or_right
              (is_line_feed x) _ h)))) after
          by false false feed h =
              cut_here (p ∷ ps) (sym (ap (λ t. after_line_end (t ++ pieces_text ps)) is
              ∙ cond-false _ _ _ feed ∙ cond-false _ _ _ h ∙ ap (λ t. t ++ pieces_text ps) (sym is)))

  -- after the line in which a header stands, in which a note may stand
  line_cut_within : {c : ℕ} {r : Text} (ps : List Piece) → ArePieces o c ps r → pieces_items ps ≡ []
      → is_line_end c ≡ false → IsCut ps (after_line (pieces_text ps))
  line_cut_within [] are none apart = cut_here [] refl
  line_cut_within {c} {r} (p ∷ ps) (ArePieces.more e rest) none apart =
      let parts = empty_front p.gives (pieces_items ps) none in
      over (front_within (quiet_front (as_quiet e parts.0)) apart) refl refl
      (end_cut (p ∷ ps) (ArePieces.more e rest) none) (end_cut ps rest parts.1)
      (λ d is other. line_cut_within {c = last_or c p.source} ps rest parts.1
      (ap (λ s. is_line_end (last_or c s)) is ∙ other))
    where
      at : (d : ℕ) → p.source ≡ d ∷ [] → IsCut (p ∷ ps) (after_line_end (p.source ++ pieces_text ps))
          → (is_line_end d ≡ false → IsCut ps (after_line (pieces_text ps)))
          → IsCut (p ∷ ps) (after_line (p.source ++ pieces_text ps))
      at d is ended later = by (is_line_end d) refl
        where
          by : (b : Bool) → is_line_end d ≡ b → IsCut (p ∷ ps) (after_line (p.source ++ pieces_text ps))
          by true end =
              subst (IsCut (p ∷ ps)) (sym (ap (λ s. after_line (s ++ pieces_text ps)) is
              ∙ cond-true _ _ _ end ∙ ap (λ s. after_line_end (s ++ pieces_text ps)) (sym is))) ended
          by false other =
              cut_later p (sym (ap (λ s. after_line (s ++ pieces_text ps)) is ∙ cond-false _ _ _ other))
              (later other)

      over : {s z : Text} → WithinLine o c s z → p.source ≡ s → z ≡ pieces_text ps ++ r
          → IsCut (p ∷ ps) (after_line_end (p.source ++ pieces_text ps))
          → IsCut ps (after_line_end (pieces_text ps))
          → ((d : ℕ) → p.source ≡ d ∷ [] → is_line_end d ≡ false → IsCut ps (after_line (pieces_text ps)))
          → IsCut (p ∷ ps) (after_line (p.source ++ pieces_text ps))
      over (WithinLine.white {d} q) is follows ended next later = at d is ended (later d is)
      over {s} (WithinLine.note may remark) is follows ended next later =
          cut_later p (sym (ap (λ s. after_line (s ++ pieces_text ps)) is
          ∙ line_past s (pieces_text ps) (note_within remark)))
          (subst (IsCut ps) (line_there (pieces_text ps) r (subst (Closes plain_ends) follows
          (note_closes remark))) next)

  pub line_cut : {c : ℕ} {r : Text} (ps : List Piece) → ArePieces o c ps r → pieces_items ps ≡ []
      → (is_line_end c ≡ false) ⊎ BeginsWith is_line_end (pieces_text ps)
      → IsCut ps (after_line (pieces_text ps))
  line_cut ps are none (inl apart) = line_cut_within ps are none apart
  line_cut ps are none (inr begins) = subst (IsCut ps) (ended_line (pieces_text ps) begins)
      (end_cut ps are none)

-- past a comment
comment_line : (s t : Text) → list_all (λ c. not (is_line_feed c)) s ≡ true
    → after_comments true (s ++ line_feed ∷ t) ≡ after_comments false t
comment_line [] t all = refl
comment_line (c ∷ s) t all =
    let parts = and_parts (not (is_line_feed c)) (list_all (λ c. not (is_line_feed c)) s) all in
    ap (λ b. after_comments b (s ++ line_feed ∷ t)) parts.0 ∙ comment_line s t parts.1

comment_to_end : (s : Text) → list_all (λ c. not (is_line_feed c)) s ≡ true → after_comments true s ≡ []
comment_to_end [] all = refl
comment_to_end (c ∷ s) all =
    let parts = and_parts (not (is_line_feed c)) (list_all (λ c. not (is_line_feed c)) s) all in
    ap (λ b. after_comments b s) parts.0 ∙ comment_to_end s parts.1

mark_other : (m : ℕ) → is_comment_mark m ≡ true → not (is_line_feed m) ≡ true
mark_other m mark =
    not_from_false (is_line_feed m) (false_from_ne_true (is_line_feed m)
    (λ feed. false≢true (subst (λ c. is_comment_mark c ≡ true) (eqb-true m line_feed feed) mark)))

begun : (m : ℕ) (t : Text) → is_comment_mark m ≡ true
    → after_comments false (m ∷ t) ≡ after_comments true t
begun m t mark =
    cond-true (is_comment_mark m) _ _ mark
    ∙ ap (λ b. after_comments b t) (and_from _ _ mark (mark_other m mark))

none_after : (s t : Text) → s ++ t ≡ [] → s ≡ []
none_after [] t h = refl
none_after (x ∷ s) t h = absurd (let no : x ∷ (s ++ t) ≡ [] = h in cc)

module _ {o : ParseOption} where
  -- after comments, of which the first stands in column one
  pub comment_cut : {c : ℕ} {r : Text} (ps : List Piece) → ArePieces o c ps r → pieces_items ps ≡ []
      → (BeginsWith is_comment_mark (pieces_text ps) → is_line_feed c ≡ true)
      → IsCut ps (after_comments false (pieces_text ps))
  comment_cut [] are none column = cut_here [] refl
  comment_cut {c} {r} (p ∷ ps) (ArePieces.more e rest) none column =
      at p.source refl (element-some e) (λ mark. marked_comment mark e)
      (comment_cut {c = last_or c p.source} ps rest (empty_front p.gives (pieces_items ps) none).1)
    where
      Later : Type 0
      Later = (BeginsWith is_comment_mark (pieces_text ps) → is_line_feed (last_or c p.source) ≡ true)
          → IsCut ps (after_comments false (pieces_text ps))

      over : {s z : Text} {gives : List Given} → IsComment o (c ∷ []) s z gives → p.source ≡ s
          → z ≡ pieces_text ps ++ r → is_line_feed c ≡ true → Later
          → IsCut (p ∷ ps) (after_comments false (p.source ++ pieces_text ps))
      over (IsComment.whole {m} s one mark all) is follows column after =
          cut_later p (sym (ap (λ t. after_comments false (t ++ pieces_text ps)) is
          ∙ begun m ((s ++ line_feed ∷ []) ++ pieces_text ps) mark
          ∙ ap (after_comments true) (append_assoc s (line_feed ∷ []) (pieces_text ps))
          ∙ comment_line s (pieces_text ps) all))
          (after (λ _. ap (λ t. is_line_feed (last_or c t)) is
          ∙ ap is_line_feed (last_or-append m s (line_feed ∷ []))))
      over (IsComment.last {m} {s} one mark all) is follows column after =
          let end : pieces_text ps ≡ [] = none_after (pieces_text ps) r (sym follows) in
          cut_later p (ap (after_comments false) end
          ∙ sym (ap (λ t. after_comments false (t ++ pieces_text ps)) is
          ∙ begun m (s ++ pieces_text ps) mark
          ∙ ap (λ t. after_comments true (s ++ t)) end
          ∙ ap (after_comments true) (append-nil s) ∙ comment_to_end s all))
          (after (λ mark. absurd (false≢true (sym (subst (BeginsWith is_comment_mark) end mark)))))
      over (IsComment.alone may late remark) is follows column after =
          absurd (both_ways (is_line_feed c) late column)

      at : (s : Text) → p.source ≡ s → 1 ≤ length s
          → (BeginsWith is_comment_mark p.source
          → IsComment o (c ∷ []) p.source (pieces_text ps ++ r) p.gives)
          → Later → IsCut (p ∷ ps) (after_comments false (p.source ++ pieces_text ps))
      at [] is some comment after = absurd (omega arith)
      at (x ∷ s) is some comment after = by (is_comment_mark x) refl
        where
          by : (b : Bool) → is_comment_mark x ≡ b
              → IsCut (p ∷ ps) (after_comments false (p.source ++ pieces_text ps))
          by true mark =
              over (comment (subst (BeginsWith is_comment_mark) (sym is) mark)) refl refl
              (column (subst (λ t. BeginsWith is_comment_mark (t ++ pieces_text ps)) (sym is) mark)) after
          by false other =
              cut_here (p ∷ ps) (sym (ap (λ t. after_comments false (t ++ pieces_text ps)) is
              ∙ cond-false (is_comment_mark x) _ _ other ∙ ap (λ t. t ++ pieces_text ps) (sym is)))

-- a text of blanks and line ends, and then no more of them
pub record AreBlanks (t lines rest : Text) : Type 0 where
  pub whole : t ≡ lines ++ rest
  pub all : list_all is_blank_or_line_end lines ≡ true
  pub apart : BeginsWithNo is_blank_or_line_end rest

pub blanks_there : (t : Text) → AreBlanks t (front_of t (after_blank_lines t)) (after_blank_lines t)
blanks_there t =
    let found = at t in
    let is : front_of t (after_blank_lines t) ≡ found.0 =
    front_is found.0 (after_blank_lines t) t (sym found.1.whole) in
    subst (λ l. AreBlanks t l (after_blank_lines t)) (sym is) found.1
  where
    at : (t : Text) → (lines : Text) × AreBlanks t lines (after_blank_lines t)
    at [] = ([], record { whole = refl; all = refl; apart = tt })
    at (c ∷ cs) = by (is_blank_or_line_end c) refl (at cs)
      where
        by : (b : Bool) → is_blank_or_line_end c ≡ b → ((lines : Text)
            × AreBlanks cs lines (after_blank_lines cs))
            → (lines : Text) × AreBlanks (c ∷ cs) lines (after_blank_lines (c ∷ cs))
        by true blank more = (
          c ∷ more.0,
          subst (AreBlanks (c ∷ cs) (c ∷ more.0)) (sym (cond-true _ _ _ blank)) (record {
            whole = ap (λ l. c ∷ l) more.1.whole;
            all = and_from _ _ blank more.1.all;
            apart = more.1.apart;
          }),
        )
        by false other more = (
          [],
          subst (AreBlanks (c ∷ cs) []) (sym (cond-false _ _ _ other)) (record {
            whole = refl;
            all = refl;
            apart = other;
          }),
        )

-- blanks and line ends with which such a text begins are its own
own_blanks : (s t lines rest : Text) → list_all is_blank_or_line_end s ≡ true
    → AreBlanks (s ++ t) lines rest → (more : Text) × (lines ≡ s ++ more) × AreBlanks t more rest
own_blanks [] t lines rest all are = (lines, refl, are)
own_blanks (x ∷ s) t [] rest all are =
    absurd (both_ways (is_blank_or_line_end x)
    (subst (BeginsWithNo is_blank_or_line_end) (sym are.whole) are.apart) (and_parts _ _ all).0)
own_blanks (x ∷ s) t (y ∷ lines) rest all are =
    let whole : x ∷ (s ++ t) ≡ y ∷ (lines ++ rest) = are.whole in
    let same : x ≡ y = cc in
    let later : s ++ t ≡ lines ++ rest = cc in
    let found = own_blanks s t lines rest (and_parts _ _ all).1
    (record { whole = later; all = (and_parts _ _ are.all).1; apart = are.apart }) in
    (found.0, ap (λ l. y ∷ l) found.1 ∙ ap (λ c. c ∷ (s ++ found.0)) (sym same), found.2)

-- no blanks are left over at the end of the lines, or nothing follows them
abbrev pub HasNoBlanks : (lines rest : Text) → Type 0
HasNoBlanks lines rest = (blanks_at_end lines ≡ []) ⊎ (rest ≡ [])

pub blanks_later : (x : ℕ) (cs : Text) → blanks_at_end (x ∷ cs) ≡ [] → blanks_at_end cs ≡ []
blanks_later x cs h = by (list_all is_blank (x ∷ cs)) h
  where
    by : (b : Bool) → cond b (x ∷ cs) (blanks_at_end cs) ≡ [] → blanks_at_end cs ≡ []
    by true e = absurd (let no : x ∷ cs ≡ [] = e in cc)
    by false e = e

no_blanks_later : (s m rest : Text) → HasNoBlanks (s ++ m) rest → HasNoBlanks m rest
no_blanks_later s m rest (inr end) = inr end
no_blanks_later [] m rest (inl none) = inl none
no_blanks_later (x ∷ s) m rest (inl none) = no_blanks_later s m rest (inl (blanks_later x (s ++ m) none))

all_blank : (w : Text) → list_all is_blank w ≡ true → list_all is_blank_or_line_end w ≡ true
all_blank [] all = refl
all_blank (x ∷ w) all =
    let parts = and_parts (is_blank x) (list_all is_blank w) all in
    and_from (is_blank_or_line_end x) _ (or_left (is_blank x) (is_line_end x) parts.0) (all_blank w parts.1)

all_then_end : (w : Text) (d : ℕ) → list_all is_blank w ≡ true → is_line_end d ≡ true
    → list_all is_blank_or_line_end (w ++ d ∷ []) ≡ true
all_then_end [] d all end = and_from (is_blank_or_line_end d) true (or_right (is_blank d) _ end) refl
all_then_end (x ∷ w) d all end =
    let parts = and_parts (is_blank x) (list_all is_blank w) all in
    and_from (is_blank_or_line_end x) _ (or_left (is_blank x) (is_line_end x) parts.0)
    (all_then_end w d parts.1 end)

-- another character comes first
not_blank : {x : ℕ} {t lines rest : Text} → is_blank_or_line_end x ≡ false → AreBlanks (x ∷ t) lines rest
    → rest ≡ x ∷ t
not_blank {lines = []} other are = sym are.whole
not_blank {x = x} {t = t} {lines = y ∷ lines} {rest = rest} other are =
    let whole : x ∷ t ≡ y ∷ (lines ++ rest) = are.whole in
    let same : y ≡ x = cc in
    absurd (both_ways (is_blank_or_line_end x) other
    (subst (λ c. is_blank_or_line_end c ≡ true) same (and_parts _ _ are.all).0))

mark_other_kind : (m : ℕ) → is_comment_mark m ≡ true → is_blank_or_line_end m ≡ false
mark_other_kind m mark =
    or_from (is_blank m) (is_line_end m) (comment_mark-apart m mark).0
    (mark_no_end m mark)

key_other_kind : (o : ParseOption) (c : ℕ) → begins_indented_key o c ≡ true → is_blank_or_line_end c ≡ false
key_other_kind o c begins =
    let parts = or_parts (is_blank_or_line_end c || c == open_bracket) (begins_note o c)
    (not-true _ begins) in
    (or_parts (is_blank_or_line_end c) (c == open_bracket) parts.0).0

blanks_are : (w : Text) → BeginsWith is_blank w → list_all is_blank w ≡ true → blanks_at_end w ≡ [] → ⊥
blanks_are [] some all none = false≢true (sym some)
blanks_are (x ∷ w) some all none =
    let no : x ∷ w ≡ [] = sym (cond-true (list_all is_blank (x ∷ w)) (x ∷ w) (blanks_at_end w) all)
    ∙ none in cc

-- no blanks are cut from what they indent
no_indent_cut : (w : Text) (x : ℕ) (s t lines rest : Text) → BeginsWith is_blank w
    → list_all is_blank w ≡ true → is_blank_or_line_end x ≡ false
    → AreBlanks ((w ++ x ∷ s) ++ t) lines rest → HasNoBlanks lines rest → ⊥
no_indent_cut w x s t lines rest some all apart are h =
    let found = own_blanks w ((x ∷ s) ++ t) lines rest (all_blank w all)
    (subst (λ u. AreBlanks u lines rest) (append_assoc w (x ∷ s) t) are) in
    let other = not_blank apart found.2 in
    at found.0 found.1 found.2 other h
  where
    at : (more : Text) → lines ≡ w ++ more → AreBlanks (x ∷ (s ++ t)) more rest → rest ≡ x ∷ (s ++ t)
        → HasNoBlanks lines rest → ⊥
    at more is are whole (inr end) = let no : x ∷ (s ++ t) ≡ [] = sym whole ∙ end in cc
    at [] is are whole (inl none) =
        blanks_are w some all (ap blanks_at_end (sym (is ∙ append-nil w)) ∙ none)
    at (y ∷ more) is are whole (inl none) =
        let first : x ∷ (s ++ t) ≡ y ∷ (more ++ rest) = are.whole in
        let same : y ≡ x = cc in
        both_ways (is_blank_or_line_end x) apart
        (subst (λ c. is_blank_or_line_end c ≡ true) same (and_parts _ _ are.all).0)

-- as no key that the text's end cuts short
no_key_cut : (o : ParseOption) (w s t lines rest : Text) → BeginsWith is_blank w → list_all is_blank w ≡ true
    → BeginsWith (begins_indented_key o) s → AreBlanks ((w ++ s) ++ t) lines rest → HasNoBlanks lines rest
    → ⊥
no_key_cut o w [] t lines rest some all begins are h = false≢true (sym begins)
no_key_cut o w (x ∷ s) t lines rest some all begins are h =
    no_indent_cut w x s t lines rest some all (key_other_kind o x begins) are h

none_rest_after : (s t : Text) → s ++ t ≡ [] → t ≡ []
none_rest_after [] t h = h
none_rest_after (x ∷ s) t h = absurd (let no : x ∷ (s ++ t) ≡ [] = h in cc)

module _ {o : ParseOption} where
  -- after blank lines
  pub blank_cut : {c : ℕ} {r : Text} (ps : List Piece) (lines rest : Text) → ArePieces o c ps r
      → pieces_items ps ≡ [] → AreBlanks (pieces_text ps) lines rest → HasNoBlanks lines rest
      → IsCut ps rest
  blank_cut [] lines rest are none blanks h =
      cut_here [] (sym (none_rest_after lines rest (sym blanks.whole)))
  blank_cut {c} {r} (p ∷ ps) lines rest (ArePieces.more e later) none blanks h =
      let parts = empty_front p.gives (pieces_items ps) none in
      over (as_quiet e parts.0) refl
      (λ more are free. blank_cut {c = last_or c p.source} ps more rest later parts.1 are free)
    where
      -- all of the piece is such
      within : (s : Text) → p.source ≡ s → list_all is_blank_or_line_end s ≡ true
          → ((more : Text) → AreBlanks (pieces_text ps) more rest → HasNoBlanks more rest → IsCut ps rest)
          → IsCut (p ∷ ps) rest
      within s is all next =
          let found = own_blanks s (pieces_text ps) lines rest all
          (subst (λ u. AreBlanks (u ++ pieces_text ps) lines rest) is blanks) in
          cut_later p refl (next found.0 found.2
          (no_blanks_later s found.0 rest (subst (λ l. HasNoBlanks l rest) found.1 h)))

      before : {x : ℕ} {s : Text} → p.source ≡ x ∷ s → is_blank_or_line_end x ≡ false → IsCut (p ∷ ps) rest
      before is other =
          cut_here (p ∷ ps) (ap (λ u. u ++ pieces_text ps) is
          ∙ sym (not_blank other (subst (λ u. AreBlanks (u ++ pieces_text ps) lines rest) is blanks)))

      over : {s z : Text} → Quiet o (c ∷ []) s z → p.source ≡ s
          → ((more : Text) → AreBlanks (pieces_text ps) more rest → HasNoBlanks more rest → IsCut ps rest)
          → IsCut (p ∷ ps) rest
      over (Quiet.anywhere (Free.line {w = w} d i q)) is next =
          within (w ++ d ∷ []) is (all_then_end w d i.blank q) next
      over (Quiet.before_header {w = w} i) is next =
          within w is (all_blank w i.blank) next
      over (Quiet.anywhere (Free.white {c = d} q n)) is next = by (is_blank_or_line_end d) refl
        where
          by : (b : Bool) → is_blank_or_line_end d ≡ b → IsCut (p ∷ ps) rest
          by true blank = within (d ∷ []) is (and_from _ _ blank refl) next
          by false other = before is other
      over (Quiet.anywhere (Free.comment {m = m} s one mark all)) is next = before is
          (mark_other_kind m mark)
      over (Quiet.at_end (Tail.comment {m = m} one mark all)) is next = before is (mark_other_kind m mark)
      over (Quiet.at_end (Tail.blanks {w = w} i)) is next = within w is (all_blank w i.blank) next
      over (Quiet.at_end (Tail.key {w = w} s i begins)) is next =
          absurd (no_key_cut o w s (pieces_text ps) lines rest i.some i.blank begins
          (subst (λ u. AreBlanks (u ++ pieces_text ps) lines rest) is blanks) h)
      over (Quiet.at_line_end (NoteFront.alone may late) (Note.note {m} mark all closes)) is next =
          before is (mark_other_kind m mark)
      over (Quiet.at_line_end (NoteFront.indented {w = w} on i) (Note.note {m} {s} mark all closes)) is next
          =
          absurd (no_indent_cut w m s (pieces_text ps) lines rest i.some i.blank (mark_other_kind m mark)
          (subst (λ u. AreBlanks (u ++ pieces_text ps) lines rest) is blanks) h)
