-- Comments put above a pair of a text in pieces, and a pair made comments: what the pieces are then.
use Rattle.std.proofs.Common.{◌≡◌, ◌∙◌, ◌&&◌, ℕ, Bool, true, false, List, [], ◌∷◌, ◌++◌, None, Option, Some}
use Rattle.std.proofs.Common.{ap, append-nil, get_or, if◌then◌else◌, map, refl, set, subst, sym}
use Rattle.std.proofs.lemmas.List.{map-append}
use Rattle.std.specs.Option.{MatchOption, option_map}
use Rattle.ini_text.specs.Options.WriteOptions.{line_end}
use Rattle.ini_text.specs.declared.option.ParseOption.{ParseOption}
use Rattle.ini_text.specs.declared.write.option.LineSeparator.{LineSeparator}
use Rattle.ini_text.specs.declared.write.option.LineSeparator.TheVariants.{CR, CRLF, SystemDefault}
use Rattle.ini_text.specs.declared.write.option.WriteOption.{WriteOption}
use Rattle.ini.specs.Edits.{delete_in}
use Rattle.ini.specs.Texts.{Text}
use Rattle.ini_text.specs.Grammar.CharacterKinds.{line_feed}
use Rattle.ini_text.specs.Grammar.Positions.{last_or}
use Rattle.ini_edit.specs.Inside.SourceEnds.{IsPairAt, IsPlaceAt, end_put_at, last_before}
use Rattle.ini_edit.specs.Inside.Spans.{AreSections}
use Rattle.ini_edit.specs.SourceEditsAdded.{new_line_end}
use Rattle.ini_edit.specs.SourceEditsComments.{IsCommentText, IsCommentedOut, comment_put}
use Rattle.ini_edit.specs.SourceEditsComments.{in_section, lines_of_comment, pair_commented_out}
use Rattle.ini_edit.specs.SourceEditsDelete.{deleted_at, pair_taken_out, rest_put, with_rest}
use Rattle.ini_edit.specs.SourceLines.{is_empty}
use Rattle.ini_edit.specs.SourcePlaces.{PairPlace, Place, exchanged, gap_put, last_before_section, edited_at}
use Rattle.ini_edit.specs.SourcePlaces.{last_changed, pair_place, section_exchanged, with_end}
use Rattle.ini_edit.specs.NewLines.{line_end_of}
use Rattle.ini_edit.specs.Sources.{PairPiece, Pieces, SectionPiece, given_pair, given_section, is_multiline}
use Rattle.ini_edit.specs.Sources.{sections_text, text_in}
use Rattle.ini_edit.specs.declared.source.pair.ends.NewEnd.{NewEnd}
use Rattle.ini_edit.proofs.CommentRowLemmas.{IsNewLine}
use Rattle.ini_edit.proofs.CommentSectionLemmas.{commented_sections}
use Rattle.ini_edit.proofs.DeletedSourceLemmas.{first_document, taken_given}
use Rattle.ini_edit.proofs.PairOutLemmas.{commented_out_sections}
use Rattle.ini_edit.proofs.SourcePlaceLemmas.{place_read, place_set, place_take}

pub new_lines : (s : LineSeparator) → IsNewLine (line_end s)
new_lines SystemDefault = IsNewLine.lf
new_lines CR = IsNewLine.lf
new_lines CRLF = IsNewLine.cr_lf

-- what pairs give stays where their ends change
module _ (f : PairPiece → PairPiece) (same : (p : PairPiece) → given_pair (f p) ≡ given_pair p) where
  last_given : (ps : List PairPiece) → map given_pair (last_changed f ps) ≡ map given_pair ps
  last_given [] = refl
  last_given (p ∷ []) = ap (λ x. x ∷ []) (same p)
  last_given (p ∷ q ∷ ps) = ap (λ l. given_pair p ∷ l) (last_given (q ∷ ps))

  ends_given : (p : PairPiece) (ps after : List PairPiece)
      → map given_pair (last_changed f (p ∷ ps) ++ after) ≡ map given_pair ((p ∷ ps) ++ after)
  ends_given p ps after =
      map-append given_pair (last_changed f (p ∷ ps)) after
      ∙ ap (λ l. l ++ map given_pair after) (last_given (p ∷ ps))
      ∙ sym (map-append given_pair (p ∷ ps) after)

gap_put_given : (g : Text) (s : SectionPiece) (before after : List PairPiece)
    → given_section (gap_put g s before after) ≡ (s.name, map given_pair (before ++ after))
gap_put_given g s [] after = refl
gap_put_given g s (p ∷ ps) after =
    ap (λ l. (s.name, l)) (ends_given (λ q. record q { after = g }) (λ q. refl) p ps after)

pub rest_put_given : (o : ParseOption) (lines g : Text) (s : SectionPiece) (before after : List PairPiece)
    → given_section (rest_put o lines g s before after) ≡ (s.name, map given_pair (before ++ after))
rest_put_given o lines g s [] after = refl
rest_put_given o lines g s (p ∷ ps) after =
    ap (λ l. (s.name, l)) (ends_given (with_rest o lines g) kept p ps after)
  where
    kept : (q : PairPiece) → given_pair (with_rest o lines g q) ≡ given_pair q
    kept q = by (is_multiline o q && is_empty q.after)
      where
        by : (b : Bool) → given_pair (if b then with_end (q.stretches.trailing_lines ++ lines) (q.after ++ g)
            q
            else with_end q.stretches.trailing_lines (q.after ++ (lines ++ g)) q) ≡ given_pair q
        by true = refl
        by false = refl

put_given : (o : ParseOption) (kept lines g : Text) (s : SectionPiece) (before after : List PairPiece)
    → given_section (rest_put o lines g (gap_put kept s before []) (gap_put kept s before []).pairs after)
    ≡ (s.name, map given_pair (before ++ after))
put_given o kept lines g s before after =
    let bare = gap_put kept s before [] in
    let given = gap_put_given kept s before [] in
    let pairs : map given_pair bare.pairs ≡ map given_pair before =
    ap (λ e. e.1) given ∙ ap (map given_pair) (append-nil before) in
    rest_put_given o lines g bare bare.pairs after
    ∙ ap (λ n. (n, map given_pair (bare.pairs ++ after))) (ap (λ e. e.0) given)
    ∙ ap (λ l. (s.name, l)) (map-append given_pair bare.pairs after
    ∙ ap (λ l. l ++ map given_pair after) pairs ∙ sym (map-append given_pair before after))

-- a section exchanged for one that gives the same
given_exchanged : {ss : List SectionPiece} {s : Place SectionPiece} {i : ℕ} → IsPlaceAt ss s i
    → (new : SectionPiece) → given_section new ≡ given_section s.here
    → map given_section (exchanged s (new ∷ [])) ≡ map given_section ss
given_exchanged {s = s} at new same =
    map-append given_section s.before (new ∷ s.after)
    ∙ ap (λ e. map given_section s.before ++ e ∷ map given_section s.after) same
    ∙ sym (map-append given_section s.before (s.here ∷ s.after))
    ∙ ap (map given_section) (sym at.whole)

chosen : {A : Type 0} (b : Bool) (x y : A) → (if b then None else Some x) ≡ Some y → x ≡ y
chosen true x y h = absurd (let no : None ≡ Some y = h in cc)
chosen false x y h = cc

comment_given : (o : ParseOption) (e comment : Text) (front : ℕ) (s : SectionPiece) (p : Place PairPiece)
    (new : SectionPiece) → comment_put o e comment front s p ≡ Some new
    → given_section new ≡ (s.name, map given_pair (p.before ++ p.here ∷ p.after))
comment_given o e comment front s p new h =
    ap given_section (sym (chosen _ _ new h))
    ∙ put_given o _ _ (lines_of_comment e comment) s p.before (p.here ∷ p.after)

-- comments put above a pair
module _ (o : ParseOption) (w : WriteOption) (ss : List SectionPiece) {found : Option PairPlace} {i j : ℕ}
    (at : IsPairAt found ss i j) where
  abbrev here : SectionPiece
  here = at.place.section.here

  abbrev front : ℕ
  front = last_before_section at.place.section

  pub comment_sections : (comment : Text) {new : SectionPiece} → IsCommentText comment
      → comment_put o (new_line_end w ss) comment front here at.place.pair ≡ Some new
      → AreSections o ss → AreSections o (set ss i new)
  comment_sections comment {new} text put are =
      subst (AreSections o) (sym (place_set at.section new))
      (commented_sections o at.section at.place.pair at.pair.whole are
      (new_lines (line_end_of w.line_separator (sections_text ss))) comment text new put)

  pub comment_document : (comment : Text) {new : SectionPiece}
      → comment_put o (new_line_end w ss) comment front here at.place.pair ≡ Some new
      → map given_section (set ss i new) ≡ map given_section ss
  comment_document comment {new} put =
      ap (map given_section) (place_set at.section new)
      ∙ given_exchanged at.section new
      (comment_given o (new_line_end w ss) comment front here at.place.pair new put
      ∙ ap (λ ps. (here.name, map given_pair ps)) (sym at.pair.whole))

  pub comment_exchanged : (comment : Text) {new : SectionPiece}
      → comment_put o (new_line_end w ss) comment front here at.place.pair ≡ Some new
      → in_section (comment_put o (new_line_end w ss) comment) at.place ≡ Some (set ss i new)
  comment_exchanged comment {new} put =
      ap (option_map (section_exchanged at.place)) put ∙ ap Some (sym (place_set at.section new))

-- a pair made comments
module _ (o : ParseOption) (ss : List SectionPiece) {found : Option PairPlace} {i j : ℕ}
    (at : IsPairAt found ss i j) {new : SectionPiece}
    (put : pair_commented_out o (last_before_section at.place.section) at.place.section.here at.place.pair
    ≡ Some new) where
  abbrev old_section : SectionPiece
  old_section = at.place.section.here

  abbrev old_front : ℕ
  old_front = last_before_section at.place.section

  pub out_sections : AreSections o ss → AreSections o (set ss i new)
  out_sections are =
      subst (AreSections o) (sym (place_set at.section new))
      (commented_out_sections o at.section at.place.pair at.pair.whole are new put)

  pub out_given : given_section new
      ≡ (old_section.name, map given_pair (at.place.pair.before ++ at.place.pair.after))
  out_given =
      ap given_section (sym (chosen _ _ new put))
      ∙ rest_put_given o [] _ old_section at.place.pair.before at.place.pair.after

  pub out_exchanged : in_section (pair_commented_out o) at.place ≡ Some (set ss i new)
  out_exchanged =
      ap (option_map (section_exchanged at.place)) put ∙ ap Some (sym (place_set at.section new))

-- the first one of a key
module _ (o : ParseOption) (ss : List SectionPiece) (name : Option Text) (key : Text) {i j : ℕ}
    (at : IsPairAt (pair_place name key 0 ss) ss i j) {new : SectionPiece}
    (put : pair_commented_out o (last_before_section at.place.section) at.place.section.here at.place.pair
    ≡ Some new) where
  out_document : map given_section (set ss i new) ≡ delete_in name key (map given_section ss)
  out_document =
      let s = at.place.section in
      let front = last_before_section s in
      let taken = pair_taken_out o front s.here at.place.pair in
      ap (map given_section) (place_set at.section new)
      ∙ map-append given_section s.before (new ∷ s.after)
      ∙ ap (λ e. map given_section s.before ++ e ∷ map given_section s.after)
      (out_given o ss at put ∙ sym (taken_given o front s.here at.place.pair))
      ∙ sym (map-append given_section s.before (taken ∷ s.after))
      ∙ ap (λ p. map given_section (edited_at (deleted_at o) p ss)) (sym at.is)
      ∙ first_document o name key ss

  pub out_made : IsCommentedOut o (record { option = o; sections = ss })
      (record { option = o; sections = set ss i new }) name key
  out_made = record {
    at = at.place;
    was = at.is;
    option = refl;
    sections = out_exchanged o ss at put;
    document = out_document;
  }

-- what a call makes of the section that it read, where it read the pieces v, which it was given as w
module _ (find : List SectionPiece → Option PairPlace) {v w : Pieces} (view : v ≡ w) {i j : ℕ}
    (there : IsPairAt (find w.sections) w.sections i j) where
  pub pair_there : IsPairAt (find v.sections) v.sections i j
  pair_there = subst (λ v. IsPairAt (find v.sections) v.sections i j) (sym view) there

  module _ {x : SectionPiece} (read : x ≡ get_or v.sections i x) where
    pub section_read : x ≡ pair_there.place.section.here
    section_read = place_read pair_there.section read

    pub pair_read : IsPlaceAt x.pairs pair_there.place.pair j
    pair_read = subst (λ s. IsPlaceAt s.pairs pair_there.place.pair j) (sym section_read) pair_there.pair

    pub front_read : {front : ℕ} → front ≡ last_before w.sections i
        → front ≡ last_before_section pair_there.place.section
    front_read before =
        before ∙ ap (λ v. last_before v.sections i) (sym view)
        ∙ ap (λ l. last_or line_feed (sections_text l)) (place_take pair_there.section)

    abbrev put_there : WriteOption → Text → Option SectionPiece
    put_there wr comment =
        comment_put v.option (new_line_end wr v.sections) comment
        (last_before_section pair_there.place.section) pair_there.place.section.here pair_there.place.pair

    module _ (wr : WriteOption) (comment : Text) {front : ℕ} {end : LineSeparator}
        (before : front ≡ last_before w.sections i)
        (ends : end ≡ line_end_of wr.line_separator (text_in w)) where
      comment_there : comment_put v.option (line_end end) comment front x pair_there.place.pair
          ≡ put_there wr comment
      comment_there =
          let p = pair_there.place.pair in
          let here = pair_there.place.section.here in
          ap (λ s. comment_put v.option (line_end end) comment front s p) section_read
          ∙ ap (λ f. comment_put v.option (line_end end) comment f here p) (front_read before)
          ∙ ap (λ e. comment_put v.option (line_end e) comment (last_before_section
          pair_there.place.section) here p)
          (ends ∙ ap (λ v. line_end_of wr.line_separator (sections_text v.sections)) (sym view))

      -- by the new end that was told before the pair, or that there is none
      module _ {told : Option NewEnd}
          (is : (p : Place PairPiece) → IsPlaceAt x.pairs p j
          → MatchOption told (comment_put v.option (line_end end) comment front x p ≡ None)
          (λ e. comment_put v.option (line_end end) comment front x p ≡ Some (end_put_at e j x))) where
        pub comment_told : {t : Option NewEnd} → told ≡ t
            → MatchOption t (put_there wr comment ≡ None)
            (λ e. put_there wr comment ≡ Some (end_put_at e j x))
        comment_told same =
            subst (λ t. MatchOption t (put_there wr comment ≡ None)
            (λ e. put_there wr comment ≡ Some (end_put_at e j x))) same
            (subst (λ put. MatchOption told (put ≡ None) (λ e. put ≡ Some (end_put_at e j x))) comment_there
            (is pair_there.place.pair pair_read))

        pub comment_ended : {e : NewEnd} {y new : SectionPiece} → told ≡ Some e
            → y ≡ get_or v.sections i y → new ≡ end_put_at e j y → put_there wr comment ≡ Some new
        comment_ended {e} some read_again put =
            comment_told some
            ∙ ap (λ s. Some (end_put_at e j s))
            (section_read ∙ sym (place_read pair_there.section read_again))
            ∙ ap Some (sym put)

    pub out_there : {front : ℕ} {t : Option SectionPiece} → front ≡ last_before w.sections i
        → pair_commented_out v.option front x pair_there.place.pair ≡ t
        → pair_commented_out v.option (last_before_section pair_there.place.section)
        pair_there.place.section.here pair_there.place.pair ≡ t
    out_there {front} before put =
        let p = pair_there.place.pair in
        let here = pair_there.place.section.here in
        ap (λ f. pair_commented_out v.option f here p) (sym (front_read before))
        ∙ ap (λ s. pair_commented_out v.option front s p) (sym section_read) ∙ put
