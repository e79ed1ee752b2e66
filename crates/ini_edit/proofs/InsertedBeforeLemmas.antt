-- A pair put into a text in pieces before another one: the sections that the edit names, and that they are
-- those of a text.
use Rattle.std.proofs.Common.{◌≡◌, ◌∙◌, ℕ, Bool, List, [], ◌∷◌, None, Option, Some, ap, get_or, refl, set}
use Rattle.std.proofs.Common.{not, subst, sym, ◌&&◌, ◌||◌, ◌++◌, if◌then◌else◌}
use Rattle.std.specs.Option.{option_map}
use Rattle.ini_text.specs.Grammar.CharacterKinds.{is_line_end, line_feed}
use Rattle.ini_text.specs.Grammar.Positions.{last_or}
use Rattle.ini_text.specs.Options.WriteOptions.{line_end}
use Rattle.ini_text.specs.Parsing.Fronts.{front_of}
use Rattle.ini_text.specs.declared.error.Error.TheVariants as text_errors
use Rattle.ini_text.specs.declared.option.ParseOption.{ParseOption}
use Rattle.ini_text.specs.declared.write.option.LineSeparator.{LineSeparator}
use Rattle.ini_text.specs.declared.write.option.LineSeparator.TheVariants.{CR, CRLF, SystemDefault}
use Rattle.ini_text.specs.declared.write.option.WriteOption.{WriteOption}
use Rattle.ini_text.proofs.PlainLemmas.PlainPairLemmas.{line_end-is}
use Rattle.ini.specs.Texts.{Text}
use Rattle.ini_edit.specs.Inside.SourceEnds.{IsNewPair, IsNoPlaceOrMemory, IsPairAt, IsPlaceAt, last_before}
use Rattle.ini_edit.specs.Inside.SourceEnds.{made_pair, style_at}
use Rattle.ini_edit.specs.Inside.Spans.{AreSections}
use Rattle.ini_edit.specs.NewLines.{line_end_of}
use Rattle.ini_edit.specs.SourceEditsAdd.{Maker, pair_put_before, would_go_on}
use Rattle.ini_edit.specs.SourceEditsAdded.{RefusesToInsert, inserted_before, made, new_line_end, style_after}
use Rattle.ini_edit.specs.SourceLines.{comments_at_end, is_empty}
use Rattle.ini_edit.specs.SourcePlaces.{PairPlace, Place, gap_of, gap_put, is_nil, last_before_gap}
use Rattle.ini_edit.specs.SourcePlaces.{last_before_section, pair_place, section_exchanged}
use Rattle.ini_edit.specs.SourceWritten.{IsFirstReadAs, IsWritableNew, Style, new_pair, value_forms}
use Rattle.ini_edit.specs.declared.error.EditError.{EditError}
use Rattle.ini_edit.specs.declared.error.EditError.TheVariants as errors
use Rattle.ini_edit.specs.declared.source.written.NewPair.{NewPair}
use Rattle.ini_edit.specs.Sources.{PairPiece, Pieces, SectionPiece, sections_text}
use Rattle.ini_edit.proofs.MakerLemmas.{MakesReadPairs, new_pairs_read}
use Rattle.ini_edit.proofs.NewPairLemmas.{read_key}
use Rattle.ini_edit.proofs.NewStyleLemmas.{new_style_plain, source_for, style_is_new}
use Rattle.ini_edit.proofs.PutBeforeSectionLemmas.{put_before_sections}
use Rattle.ini_edit.proofs.SourceAddLemmas.{IsNewEnd}
use Rattle.ini_edit.proofs.SourcePlaceLemmas.{place_read, place_set, place_take}

-- the line ends that are written
pub record IsWrittenEnd (e : Text) : Type 0 where
  pub first : ℕ
  pub rest : Text
  pub whole : e ≡ first ∷ rest
  pub is : IsNewEnd first rest

pub written_end : (sep : LineSeparator) → IsWrittenEnd (line_end sep)
written_end SystemDefault = record {
  first = 10;
  rest = [];
  whole = refl;
  is = record { all = refl; feed = refl; is_end = line_end-is SystemDefault };
}
written_end CR = record {
  first = 10;
  rest = [];
  whole = refl;
  is = record { all = refl; feed = refl; is_end = line_end-is CR };
}
written_end CRLF = record {
  first = 13;
  rest = 10 ∷ [];
  whole = refl;
  is = record { all = refl; feed = refl; is_end = line_end-is CRLF };
}

-- makers of the same pairs put the same in
pub put_before_same : (o : ParseOption) (e : Text) (make other : Maker) (front : ℕ) (s : SectionPiece)
    (p : Place PairPiece) → ((b : Bool) (lines g : Text) → make b lines g ≡ other b lines g)
    → pair_put_before o e make front s p ≡ pair_put_before o e other front s p
put_before_same o e make other front s p same =
    let last = last_before_gap front s p.before in
    let gap = gap_of s.after p.before in
    let comments = comments_at_end last gap in
    let kept = front_of gap comments in
    ap (λ n. if is_empty comments && would_go_on o p.here then None
    else Some (gap_put (kept ++ (if is_line_end (last_or last kept) then [] else e)) s p.before (n ∷ p.here
    ∷ p.after)))
    (same (not o.enabled_indented_mutiline_value || (is_nil p.before || not (is_empty kept))) e comments)

module _ (o : ParseOption) (w : WriteOption) (key value source : Text) {ss : List SectionPiece} {i : ℕ}
    (p : PairPlace) (at : IsPlaceAt ss p.section i) (make : Maker) where
  abbrev pub maker_there : Maker
  maker_there = made o w key value source (style_after o w ss p.section p.pair.before)

  abbrev pub IsMaker : Type 0
  IsMaker = (b : Bool) (lines g : Text) → make b lines g ≡ maker_there b lines g

  put_so : {new : SectionPiece} → IsMaker
      → pair_put_before o (new_line_end w ss) make
      (last_before_section p.section) p.section.here p.pair ≡ Some new
      → pair_put_before o (new_line_end w ss) maker_there
      (last_before_section p.section) p.section.here p.pair
      ≡ Some new
  put_so same put =
      sym (put_before_same o (new_line_end w ss) make maker_there
      (last_before_section p.section) p.section.here
      p.pair same)
      ∙ put

  pub inserted_so : {new : SectionPiece} → IsMaker
      → pair_put_before o (new_line_end w ss) make
      (last_before_section p.section) p.section.here p.pair ≡ Some new
      → inserted_before o w key value source ss p ≡ Some (set ss i new)
  inserted_so {new} same put =
      ap (option_map (section_exchanged p)) (put_so same put) ∙ ap Some (sym (place_set at new))

  pub inserted_nowhere : IsMaker
      → pair_put_before o (new_line_end w ss) make
      (last_before_section p.section) p.section.here p.pair ≡ None
      → inserted_before o w key value source ss p ≡ None
  inserted_nowhere same none =
      ap (option_map (section_exchanged p))
      (sym (put_before_same o (new_line_end w ss) make maker_there
      (last_before_section p.section) p.section.here
      p.pair same)
      ∙ none)

  pub inserted_sections : {new : SectionPiece} → IsMaker
      → p.section.here.pairs ≡ p.pair.before ++ p.pair.here ∷ p.pair.after → IsWritableNew o w key value
      → IsFirstReadAs o value (value_forms w.escape_policy [] value) source
      → pair_put_before o (new_line_end w ss) make
      (last_before_section p.section) p.section.here p.pair ≡ Some new
      → AreSections o ss → AreSections o (set ss i new)
  inserted_sections {new} same whole writable first put are =
      let e = written_end (line_end_of w.line_separator (sections_text ss)) in
      let makes : MakesReadPairs o maker_there =
      new_pairs_read writable.plain_key (read_key writable)
      (new_style_plain o w p.pair.before (p.pair.here ∷ p.pair.after) writable.plain_separator at whole are)
      (source_for first) in
      subst (AreSections o) (sym (place_set at new))
      (put_before_sections o at p.pair whole are e.is maker_there makes new
      (ap (λ e. pair_put_before o e maker_there (last_before_section p.section) p.section.here p.pair)
      (sym e.whole) ∙ put_so same put))

-- what the code puts in, at the pair that it found
module _ (o : ParseOption) (w : WriteOption) (ss : List SectionPiece)
    (key value source : Text) {style : Style}
    {found : Option PairPlace} {i j : ℕ} (at : IsPairAt found ss i j) (sep : LineSeparator) (pair : NewPair)
    (styled : style ≡ style_at o w ss i j) (is : IsNewPair w.escape_policy style key value source pair) where
  made_so : IsMaker o w key value source at.place at.section (made_pair o pair)
  made_so indented lines g =
      is o indented lines g
      ∙ ap (λ z. new_pair o w.escape_policy z indented key value source lines g)
      (styled ∙ style_is_new o w j at.section (place_take at.pair))

  there_in : {here : SectionPiece} → here ≡ at.place.section.here → IsPlaceAt here.pairs at.place.pair j
  there_in same = subst (λ t. IsPlaceAt t.pairs at.place.pair j) (sym same) at.pair

  put_there : {here : SectionPiece} {front : ℕ} {put : Option SectionPiece}
      → line_end sep ≡ new_line_end w ss → front ≡ last_before ss i → here ≡ at.place.section.here
      → pair_put_before o (line_end sep) (made_pair o pair) front here at.place.pair ≡ put
      → pair_put_before o (new_line_end w ss) (made_pair o pair) (last_before_section at.place.section)
      at.place.section.here at.place.pair ≡ put
  put_there {here} {front} end before same put =
      let p = at.place.pair in
      let s = at.place.section in
      ap (λ e. pair_put_before o e (made_pair o pair) (last_before_section s) s.here p) (sym end)
      ∙ ap (λ f. pair_put_before o (line_end sep) (made_pair o pair) f s.here p)
      (sym (before ∙ ap (λ l. last_or line_feed (sections_text l)) (place_take at.section)))
      ∙ ap (λ t. pair_put_before o (line_end sep) (made_pair o pair) front t p) (sym same)
      ∙ put

  pub before_put : {here new : SectionPiece} {front : ℕ}
      → line_end sep ≡ new_line_end w ss → front ≡ last_before ss i → here ≡ at.place.section.here
      → ((p : Place PairPiece) → IsPlaceAt here.pairs p j
      → pair_put_before o (line_end sep) (made_pair o pair) front here p ≡ Some new)
      → IsWritableNew o w key value
      → IsFirstReadAs o value (value_forms w.escape_policy [] value) source
      → (inserted_before o w key value source ss at.place ≡ Some (set ss i new))
      × (AreSections o ss → AreSections o (set ss i new))
  before_put end before same put writable first =
      let there = put_there end before same (put at.place.pair (there_in same)) in (
        inserted_so o w key value source at.place at.section (made_pair o pair) made_so there,
        λ are. inserted_sections o w key value source at.place at.section (made_pair o pair) made_so
            at.pair.whole writable first there are,
      )

  pub before_refused : {name : Option Text} {place : Text} {here : SectionPiece} {front : ℕ} (e : EditError)
      → found ≡ pair_place name place 0 ss
      → line_end sep ≡ new_line_end w ss → front ≡ last_before ss i → here ≡ at.place.section.here
      → ((p : Place PairPiece) → IsPlaceAt here.pairs p j
      → IsNoPlaceOrMemory (pair_put_before o (line_end sep) (made_pair o pair) front here p) e)
      → IsWritableNew o w key value
      → IsFirstReadAs o value (value_forms w.escape_policy [] value) source
      → RefusesToInsert o w ss name place key value e
  before_refused {name} {place} {here} {front} e is_found end before same put writable first =
      by e (put at.place.pair (there_in same))
    where
      by : (e : EditError)
          → IsNoPlaceOrMemory (pair_put_before o (line_end sep)
          (made_pair o pair) front here at.place.pair) e
          → RefusesToInsert o w ss name place key value e
      by errors.NoPlace none =
          RefusesToInsert.no_place_before writable first (sym is_found ∙ at.is)
          (inserted_nowhere o w key value source at.place at.section (made_pair o pair) made_so
          (put_there end before same none))
      by (errors.Text (text_errors.Memory x)) h = RefusesToInsert.unwritable_pair tt
      by (errors.Text (text_errors.Io x)) h = absurd h
      by (errors.Text (text_errors.Parse x)) h = absurd h
      by (errors.Text text_errors.NotUtf8) h = absurd h
      by (errors.Text text_errors.NoProgress) h = absurd h
      by errors.Value h = absurd h
      by errors.Name h = absurd h
      by errors.Key h = absurd h
      by errors.Separator h = absurd h

-- the same of the code's own pieces
pub before_put_view : {t v : Pieces} → t ≡ v → (w : WriteOption) {key value source : Text} {style : Style}
    {found : Option PairPlace} {i j : ℕ} (at : IsPairAt found v.sections i j) (sep : LineSeparator)
    (pair : NewPair) {here new : SectionPiece} {front : ℕ} → style ≡ style_at v.option w v.sections i j
    → line_end sep ≡ new_line_end w v.sections → front ≡ last_before v.sections i
    → IsNewPair w.escape_policy style key value source pair
    → IsWritableNew t.option w key value
    → IsFirstReadAs t.option value (value_forms w.escape_policy [] value) source
    → here ≡ get_or t.sections i here
    → ((p : Place PairPiece) → IsPlaceAt here.pairs p j
    → pair_put_before t.option (line_end sep) (made_pair t.option pair) front here p ≡ Some new)
    → (inserted_before v.option w key value source v.sections at.place ≡ Some (set t.sections i new))
    × (AreSections t.option t.sections → AreSections t.option (set t.sections i new))
before_put_view {t} {v} same w {key} {value} {source} {i = i} {j} at sep pair {here} {new} {front} styled end
    before is =
    subst (λ t. IsWritableNew t.option w key value
    → IsFirstReadAs t.option value (value_forms w.escape_policy [] value) source
    → here ≡ get_or t.sections i here
    → ((p : Place PairPiece) → IsPlaceAt here.pairs p j
    → pair_put_before t.option (line_end sep) (made_pair t.option pair) front here p ≡ Some new)
    → (inserted_before v.option w key value source v.sections at.place ≡ Some (set t.sections i new))
    × (AreSections t.option t.sections → AreSections t.option (set t.sections i new))) (sym same)
    (λ writable first read put.
    before_put v.option w v.sections key value source at sep pair styled is end before
    (place_read at.section read) put writable first)

pub before_refused_view : {t v : Pieces} → t ≡ v → (w : WriteOption) {name : Option Text}
    {place key value source : Text} {style : Style} {i j : ℕ}
    (at : IsPairAt (pair_place name place 0 v.sections) v.sections i j) (sep : LineSeparator)
    (pair : NewPair) {here : SectionPiece} {front : ℕ} (e : EditError)
    → style ≡ style_at v.option w v.sections i j
    → line_end sep ≡ new_line_end w v.sections → front ≡ last_before v.sections i
    → IsNewPair w.escape_policy style key value source pair
    → IsWritableNew t.option w key value
    → IsFirstReadAs t.option value (value_forms w.escape_policy [] value) source
    → here ≡ get_or t.sections i here
    → ((p : Place PairPiece) → IsPlaceAt here.pairs p j
    → IsNoPlaceOrMemory (pair_put_before t.option (line_end sep) (made_pair t.option pair) front here p) e)
    → RefusesToInsert v.option w v.sections name place key value e
before_refused_view {t} {v} same w {name} {place} {key} {value} {source} {i = i} {j} at sep pair {here}
    {front} e styled end before is =
    subst (λ t. IsWritableNew t.option w key value
    → IsFirstReadAs t.option value (value_forms w.escape_policy [] value) source
    → here ≡ get_or t.sections i here
    → ((p : Place PairPiece) → IsPlaceAt here.pairs p j
    → IsNoPlaceOrMemory (pair_put_before t.option (line_end sep) (made_pair t.option pair) front here p) e)
    → RefusesToInsert v.option w v.sections name place key value e) (sym same)
    (λ writable first read put.
    before_refused v.option w v.sections key value source at sep pair styled is e refl end before
    (place_read at.section read) put writable first)
