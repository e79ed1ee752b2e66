-- Steps of the walks that lay out a text in pieces and compare two of them.
use Rattle.std.proofs.Common.{◌≡◌, ◌∙◌, ◌<◌, ◌≤◌, ◌+◌, ◌-◌, ◌&&◌, ℕ, zero, suc, Bool, true, false, cond}
use Rattle.std.proofs.Common.{not, List, [], ◌∷◌, ◌++◌}
use Rattle.std.proofs.Common.{ap, append-nil, append_assoc, arith, drop, eqb, eqb-true, get_or, length}
use Rattle.std.proofs.Common.{None, Option, Some, is_some, nat_eq, refl, replicate, subst, sym}
use Rattle.std.proofs.lemmas.Bool.{cond-false, cond-true, false≢true}
use Rattle.std.proofs.lemmas.List.{drop_all, drop_more}
use Rattle.ini.specs.Texts.{Text}
use Rattle.ini_text.specs.Grammar.CharacterKinds.{carriage_return, is_blank, is_line_feed, space}
use Rattle.ini_text.specs.Grammar.Positions.{last_or}
use Rattle.ini_text.specs.Grammar.CharacterKinds.{begins}
use Rattle.ini_text.specs.Options.Backslashes.{begins_escape}
use Rattle.ini_text.specs.Options.ReadOptions.{backslash_of}
use Rattle.ini_text.specs.Parsing.Fronts.{IsRest, front_of}
use Rattle.ini_text.specs.declared.option.ParseOption.{ParseOption}
use Rattle.ini_edit.specs.Inside.SourceLayouts.{EndsInRest}
use Rattle.ini_edit.specs.SourceLayout.{Rules, laid_gap, laid_pair, laid_pairs, laid_section, laid_sections}
use Rattle.ini_edit.specs.SourceEditsSections.{rest_before_header}
use Rattle.ini_edit.specs.SourceLayout.{above_next, column_after, column_at, first_lines, laid_lines}
use Rattle.ini_edit.specs.SourceLayout.{line_ends, lines_of, one_more, pad_for, style_of_key, white_before}
use Rattle.ini_edit.specs.SourceLines.{comments_at_end, indentation_at_end}
use Rattle.ini_edit.specs.SourcePlaces.{gap_of, is_nil, last_gap}
use Rattle.ini_edit.specs.SourceWritten.{Style}
use Rattle.ini_edit.specs.Sources.{PairPiece, SectionPiece, pair_text, section_text}
use Rattle.ini_edit.specs.declared.source.layout.lines.Follower.{Follower}
use Rattle.ini_edit.specs.declared.source.layout.lines.Follower.TheVariants.{AsItIs, End, Header}
use Rattle.ini_edit.proofs.SourceLineLemmas.{comments_at_end-rest, front_of_none, indentation_at_end-rest}
use Rattle.ini_edit.proofs.SourceLineLemmas.{rest_from}

-- a list from an index on: what stands there, and the rest
pub here : {A : Type 0} (xs : List A) (i : ℕ) (x : A) → i < length xs → x ≡ get_or xs i x
    → drop i xs ≡ x ∷ drop (i + 1) xs
here xs i x within is = drop_more xs i x within ∙ ap (λ y. y ∷ drop (i + 1) xs) (sym is)

-- the one at the index is the last one, or isn't
pub is_last : {A : Type 0} (xs : List A) (i : ℕ) (x : A) → i < length xs
    → nat_eq (i + 1) (length xs) ≡ is_nil (drop (i + 1) xs)
is_last xs i x within = by (nat_eq (i + 1) (length xs)) refl
  where
    by : (b : Bool) → nat_eq (i + 1) (length xs) ≡ b → b ≡ is_nil (drop (i + 1) xs)
    by true e =
        let at : i + 1 ≡ length xs = eqb-true (i + 1) (length xs) e in
        sym (ap is_nil (drop_all (i + 1) xs (omega (arith, at))))
    by false e =
        let lt : i + 1 < length xs = grind arith in
        sym (ap is_nil (drop_more xs (i + 1) x lt))

three : (a b c d : Text) → ((a ++ b) ++ c) ++ d ≡ a ++ (b ++ (c ++ d))
three a b c d = append_assoc (a ++ b) c d ∙ append_assoc a b (c ++ d)

-- line ends and spaces, of which one more is appended
pub line_ends_step : (t : Text) (n : ℕ) (out : Text) {one whole : Text} → 0 < n
    → out ++ line_ends t n ≡ whole → one ≡ out ++ t → one ++ line_ends t (n - 1) ≡ whole
line_ends_step t zero out some so_far is = absurd (omega (arith, some))
line_ends_step t (suc n) out {one} some so_far is =
    let less : suc n - 1 ≡ n = omega arith in
    ap (λ m. one ++ line_ends t m) less ∙ ap (λ u. u ++ line_ends t n) is
    ∙ append_assoc out t (line_ends t n) ∙ so_far

pub spaces_step : (c n : ℕ) (out : Text) {one whole : Text} → 0 < n → out ++ replicate n c ≡ whole
    → one ≡ out ++ c ∷ [] → one ++ replicate (n - 1) c ≡ whole
spaces_step c zero out some so_far is = absurd (omega (arith, some))
spaces_step c (suc n) out {one} some so_far is =
    let less : suc n - 1 ≡ n = omega arith in
    ap (λ m. one ++ replicate m c) less ∙ ap (λ u. u ++ replicate n c) is
    ∙ append_assoc out (c ∷ []) (replicate n c) ∙ so_far

pub line_ends_none : (t : Text) (n : ℕ) {out whole : Text} → n ≤ 0 → out ++ line_ends t n ≡ whole
    → out ≡ whole
line_ends_none t zero {out} none so_far = sym (append-nil out) ∙ so_far
line_ends_none t (suc n) none so_far = absurd (omega (arith, none))

pub spaces_none : (c n : ℕ) {out whole : Text} → n ≤ 0 → out ++ replicate n c ≡ whole → out ≡ whole
spaces_none c zero {out} none so_far = sym (append-nil out) ∙ so_far
spaces_none c (suc n) none so_far = absurd (omega (arith, none))

four : (a b c : Text) (x : ℕ) (d : Text) → (((a ++ b) ++ c) ++ x ∷ []) ++ d ≡ a ++ (b ++ (c ++ x ∷ d))
four a b c x d =
    append_assoc ((a ++ b) ++ c) (x ∷ []) d ∙ append_assoc (a ++ b) c (x ∷ d)
    ∙ append_assoc a b (c ++ x ∷ d)

module _ (r : Rules) (follower : Follower) where
  -- a gap, of which one more character is laid out
  pub feed_step : (inside : Bool) (ends : ℕ) (blanks out : Text) {next : ℕ} {rest after more : Text} (c : ℕ)
      {whole : Text}
      → rest ≡ c ∷ after → is_line_feed c ≡ true → next ≡ one_more r.blank_lines ends → more ≡ []
      → out ++ laid_lines r follower inside ends blanks rest ≡ whole
      → out ++ laid_lines r follower false next more after ≡ whole
  feed_step inside ends blanks out {next} {after = after} {more} c is feed one none so_far =
      ap (λ n. out ++ laid_lines r follower false n more after) one
      ∙ ap (λ b. out ++ laid_lines r follower false (one_more r.blank_lines ends) b after) none
      ∙ ap (λ t. out ++ t) (sym (ap (laid_lines r follower inside ends blanks) is ∙ cond-true _ _ _ feed))
      ∙ so_far

  pub return_step : (inside : Bool) (ends : ℕ) (blanks out : Text) {rest after more : Text} (c : ℕ)
      {whole : Text}
      → rest ≡ c ∷ after → is_line_feed c ≡ false
      → (eqb c carriage_return && begins is_line_feed after) ≡ true → more ≡ []
      → out ++ laid_lines r follower inside ends blanks rest ≡ whole
      → out ++ laid_lines r follower inside ends more after ≡ whole
  return_step inside ends blanks out {after = after} c is feed returns none so_far =
      ap (λ b. out ++ laid_lines r follower inside ends b after) none
      ∙ ap (λ t. out ++ t) (sym (ap (laid_lines r follower inside ends blanks) is
      ∙ cond-false _ _ _ feed
      ∙ cond-true _ _ _ returns))
      ∙ so_far

  pub blank_step : (inside : Bool) (ends : ℕ) (blanks out : Text) {rest after more : Text} (c : ℕ)
      {whole : Text}
      → rest ≡ c ∷ after → is_line_feed c ≡ false
      → (eqb c carriage_return && begins is_line_feed after) ≡ false
      → (not inside && is_blank c) ≡ true → more ≡ blanks ++ c ∷ []
      → out ++ laid_lines r follower inside ends blanks rest ≡ whole
      → out ++ laid_lines r follower inside ends more after ≡ whole
  blank_step inside ends blanks out {after = after} c is feed returns blank more so_far =
      ap (λ b. out ++ laid_lines r follower inside ends b after) more
      ∙ ap (λ t. out ++ t) (sym (ap (laid_lines r follower inside ends blanks) is
      ∙ cond-false _ _ _ feed
      ∙ cond-false _ _ _ returns ∙ cond-true _ _ _ blank))
      ∙ so_far

  pub content_step : (inside : Bool) (ends : ℕ) (blanks out : Text) {rest after more : Text} (c : ℕ)
      {one two last whole : Text}
      → rest ≡ c ∷ after → is_line_feed c ≡ false
      → (eqb c carriage_return && begins is_line_feed after) ≡ false
      → (not inside && is_blank c) ≡ false → more ≡ []
      → one ≡ out ++ line_ends r.line_end ends → two ≡ one ++ blanks → last ≡ two ++ c ∷ []
      → out ++ laid_lines r follower inside ends blanks rest ≡ whole
      → last ++ laid_lines r follower true 0 more after ≡ whole
  content_step inside ends blanks out {after = after} c {last = last} is feed returns blank none
      one_is two_is last_is so_far =
      let left = laid_lines r follower true 0 [] after in
      ap (λ b. last ++ laid_lines r follower true 0 b after) none
      ∙ ap (λ t. t ++ left) (last_is ∙ ap (λ t. t ++ c ∷ []) (two_is ∙ ap (λ t. t ++ blanks) one_is))
      ∙ four out (line_ends r.line_end ends) blanks c left
      ∙ ap (λ t. out ++ t) (sym (ap (laid_lines r follower inside ends blanks) is
      ∙ cond-false _ _ _ feed
      ∙ cond-false _ _ _ returns ∙ cond-false _ _ _ blank))
      ∙ so_far

  pub gap_end : (inside : Bool) (ends : ℕ) (out : Text) {blanks rest line one whole : Text} → rest ≡ []
      → blanks ≡ line → one ≡ out ++ white_before r follower ends line
      → out ++ laid_lines r follower inside ends blanks rest ≡ whole → one ≡ whole
  gap_end inside ends out {blanks} none is one_is so_far =
      one_is ∙ ap (λ b. out ++ white_before r follower ends b) (sym is)
      ∙ ap (λ t. out ++ laid_lines r follower inside ends blanks t) (sym none) ∙ so_far

module _ (r : Rules) where
  -- pairs, of which one more is laid out
  pub pairs_step : (follower : Follower) (rest : Text) (last column : ℕ) (out : Text) {here_is next more : ℕ}
      (ps : List PairPiece) (i : ℕ) (p : PairPiece) {ends : Bool} {one two whole : Text}
      → i < length ps → p ≡ get_or ps i p
      → out ++ laid_pairs r follower rest last column (drop i ps) ≡ whole
      → here_is ≡ column_at r (is_line_feed last) column (drop i ps)
      → one ≡ out ++ laid_pair r (is_line_feed last) here_is p
      → ends ≡ is_nil (drop (i + 1) ps)
      → two ≡ one ++ laid_gap r (cond ends follower AsItIs) (lines_of p (cond ends rest []))
      → more ≡ column_after r here_is p → next ≡ last_or last (pair_text p)
      → two ++ laid_pairs r follower rest next more (drop (i + 1) ps) ≡ whole
  pairs_step follower rest last column out {here_is} {next} {more} ps i p {ends} {one} {two} within is so_far
      here_at one_is nil two_is more_is next_is =
      let left = drop (i + 1) ps in
      let end = last_or last (pair_text p) in
      let at : here_is ≡ column_at r (is_line_feed last) column (p ∷ left) =
      here_at ∙ ap (column_at r (is_line_feed last) column) (here ps i p within is) in
      let line : ℕ → Text = λ n. laid_pair r (is_line_feed last) n p in
      let gap : Bool → Text = λ b. laid_gap r (cond b follower AsItIs) (lines_of p (cond b rest [])) in
      let after : ℕ → ℕ → Text = λ n m. laid_pairs r follower rest n m left in
      let text : two ≡ (out ++ line here_is) ++ gap (is_nil left) =
      two_is ∙ ap (λ b. one ++ gap b) nil ∙ ap (λ t. t ++ gap (is_nil left)) one_is in
      ap (λ t. t ++ after next more) text
      ∙ ap (λ n. ((out ++ line here_is) ++ gap (is_nil left)) ++ after n more) next_is
      ∙ ap (λ m. ((out ++ line here_is) ++ gap (is_nil left)) ++ after end m) more_is
      ∙ three out (line here_is) (gap (is_nil left)) (after end (column_after r here_is p))
      ∙ ap (λ n. out ++ (line n ++ (gap (is_nil left) ++ after end (column_after r n p)))) at
      ∙ ap (λ l. out ++ laid_pairs r follower rest last column l) (sym (here ps i p within is)) ∙ so_far

  -- all are
  pub pairs_end : (follower : Follower) (rest : Text) (last column : ℕ) (ps : List PairPiece) (i : ℕ)
      {out whole : Text} → length ps ≤ i → out ++ laid_pairs r follower rest last column (drop i ps) ≡ whole
      → out ≡ whole
  pairs_end follower rest last column ps i {out} all so_far =
      sym (append-nil out)
      ∙ sym (ap (λ l. out ++ laid_pairs r follower rest last column l) (drop_all i ps all)) ∙ so_far

  -- sections
  pub sections_step : (front : ℕ) (out : Text) {next : ℕ} (ss : List SectionPiece) (i : ℕ)
      (s : SectionPiece) {ends : Bool} {one whole : Text} → i < length ss → s ≡ get_or ss i s
      → out ++ laid_sections r front (drop i ss) ≡ whole → ends ≡ is_nil (drop (i + 1) ss)
      → one ≡ out ++ laid_section r ends front s → next ≡ last_or front (section_text s)
      → one ++ laid_sections r next (drop (i + 1) ss) ≡ whole
  sections_step front out {next} ss i s {ends} {one} within is so_far nil one_is next_is =
      let left = drop (i + 1) ss in
      let text : one ≡ out ++ laid_section r (is_nil left) front s =
      one_is ∙ ap (λ b. out ++ laid_section r b front s) nil in
      ap (λ t. t ++ laid_sections r next left) text
      ∙ ap (λ n. (out ++ laid_section r (is_nil left) front s) ++ laid_sections r n left) next_is
      ∙ append_assoc out (laid_section r (is_nil left) front s)
      (laid_sections r (last_or front (section_text s)) left)
      ∙ ap (λ l. out ++ laid_sections r front l) (sym (here ss i s within is)) ∙ so_far

  pub sections_end : (front : ℕ) (ss : List SectionPiece) (i : ℕ) {out whole : Text} → length ss ≤ i
      → out ++ laid_sections r front (drop i ss) ≡ whole → out ≡ whole
  sections_end front ss i {out} all so_far =
      sym (append-nil out) ∙ sym (ap (λ l. out ++ laid_sections r front l) (drop_all i ss all)) ∙ so_far

-- what follows the last of the pairs ends in the rest, and so does what follows those from an index on
ends_after : (rest : Text) (p : PairPiece) (ps : List PairPiece) → EndsInRest rest (p ∷ ps)
    → EndsInRest rest ps
ends_after rest p [] h = tt
ends_after rest p (q ∷ qs) h = h

ends_from : (rest : Text) (i : ℕ) (ps : List PairPiece) → EndsInRest rest ps → EndsInRest rest (drop i ps)
ends_from rest zero ps h = h
ends_from rest (suc i) [] h = tt
ends_from rest (suc i) (p ∷ ps) h = ends_from rest i ps (ends_after rest p ps h)

pub last_rest : (rest : Text) (ps : List PairPiece) (i : ℕ) (p : PairPiece) → EndsInRest rest ps
    → i < length ps → p ≡ get_or ps i p → i + 1 ≡ length ps → IsRest p.after rest
last_rest rest ps i p h within is at =
    let none : drop (i + 1) ps ≡ [] = drop_all (i + 1) ps (omega (arith, at)) in
    subst (EndsInRest rest) (here ps i p within is ∙ ap (λ l. p ∷ l) none) (ends_from rest i ps h)

pub rest_ends : (after rest : Text) (ps : List PairPiece) → IsRest (gap_of after ps) rest
    → EndsInRest rest ps
rest_ends after rest [] h = tt
rest_ends after rest (p ∷ ps) h = h

pub bare_gap : (s : SectionPiece) → is_nil s.pairs ≡ true → last_gap s ≡ s.after
bare_gap s h = by s.pairs h
  where
    by : (ps : List PairPiece) → is_nil ps ≡ true → gap_of s.after ps ≡ s.after
    by [] e = refl
    by (p ∷ ps) e = absurd (let no : false ≡ true = e in cc)

-- what stays of a section's last gap is a rest of it
pub rest_before_header-rest : (before : ℕ) (gap : Text) → IsRest gap (rest_before_header before gap)
rest_before_header-rest before gap =
    let indentation = indentation_at_end before gap in
    let front = front_of gap indentation in
    let comments = comments_at_end before front in
    let kept = front_of front comments in
    let whole : kept ++ (comments ++ indentation) ≡ gap =
    sym (append_assoc kept comments indentation)
    ∙ ap (λ t. t ++ indentation) (comments_at_end-rest before front) ∙ indentation_at_end-rest before gap in
    rest_from kept (comments ++ indentation) gap whole

module _ (r : Rules) (s : SectionPiece) where
  -- what follows a header
  pub first_bare : (follower : Follower) (rest out : Text) {lines one : Text} → is_nil s.pairs ≡ true
      → lines ≡ first_lines s (front_of s.after rest) → one ≡ out ++ laid_gap r follower lines
      → one ≡ out ++ laid_gap r (cond (is_nil s.pairs) follower AsItIs)
      (first_lines s (front_of s.after (cond (is_nil s.pairs) rest [])))
  first_bare follower rest out bare lines is =
      is ∙ ap (λ t. out ++ laid_gap r follower t) lines
      ∙ ap (λ b. out ++ laid_gap r (cond b follower AsItIs)
      (first_lines s (front_of s.after (cond b rest [])))) (sym bare)

  pub first_more : (follower : Follower) (rest out : Text) {lines one : Text}
      → is_nil s.pairs ≡ false → lines ≡ first_lines s s.after → one ≡ out ++ laid_gap r AsItIs lines
      → one ≡ out ++ laid_gap r (cond (is_nil s.pairs) follower AsItIs)
      (first_lines s (front_of s.after (cond (is_nil s.pairs) rest [])))
  first_more follower rest out more lines is =
      is ∙ ap (λ t. out ++ laid_gap r AsItIs t) (lines ∙ ap (first_lines s) (sym (front_of_none s.after)))
      ∙ ap (λ b. out ++ laid_gap r (cond b follower AsItIs)
      (first_lines s (front_of s.after (cond b rest [])))) (sym more)

  -- a whole section
  pub section_is : (ends : Bool) (front : ℕ) (out : Text) {follower : Follower} {rest : Text} {last : ℕ}
      {one two three_text four : Text} → follower ≡ cond ends End Header → rest ≡ above_next ends front s
      → last ≡ last_or (last_or front s.header) s.after → one ≡ out ++ s.header
      → two ≡ one ++ laid_gap r (cond (is_nil s.pairs) follower AsItIs)
      (first_lines s (front_of s.after (cond (is_nil s.pairs) rest [])))
      → three_text ≡ two ++ laid_pairs r follower rest last 0 s.pairs
      → four ≡ three_text ++ laid_gap r AsItIs rest → four ≡ out ++ laid_section r ends front s
  section_is ends front out {follower} {rest} {last} follower_is rest_is last_is one_is
      two_is three_is four_is =
      let first : Follower → Text → Text = λ f t. laid_gap r (cond (is_nil s.pairs) f AsItIs)
      (first_lines s (front_of s.after (cond (is_nil s.pairs) t []))) in
      let whole : Follower → Text → ℕ → Text = λ f t n.
      out ++ (s.header ++ (first f t ++ (laid_pairs r f t n 0 s.pairs
      ++ laid_gap r AsItIs t))) in
      four_is
      ∙ ap (λ x. x ++ laid_gap r AsItIs rest) (three_is
      ∙ ap (λ x. x ++ laid_pairs r follower rest last 0 s.pairs) (two_is
      ∙ ap (λ x. x ++ first follower rest) one_is))
      ∙ three (out ++ s.header) (first follower rest) (laid_pairs r follower rest last 0 s.pairs)
      (laid_gap r AsItIs rest)
      ∙ append_assoc out s.header _
      ∙ ap (λ f. whole f rest last) follower_is ∙ ap (λ t. whole (cond ends End Header) t last) rest_is
      ∙ ap (λ n. whole (cond ends End Header) (above_next ends front s) n) last_is
