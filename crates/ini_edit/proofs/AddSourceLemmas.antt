-- A new pair added to a text in pieces, in a section that is there.
use Rattle.std.proofs.Common.{◌≡◌, ◌∙◌, ◌+◌, ◌==◌, ℕ, Bool, true, List, [], ◌∷◌, ◌++◌, None, Option}
use Rattle.std.proofs.Common.{Some, ap, arith, eq-eqb, get_or, if◌then◌else◌, length, length-append, map}
use Rattle.std.proofs.Common.{ne_eqb, refl, set, subst, sym}
use Rattle.std.proofs.lemmas.List.{take_all}
use Rattle.std.specs.Option.{option_map}
use Rattle.std.specs.Prelude.{is_none}
use Rattle.ini_text.specs.Options.WriteOptions.{line_end}
use Rattle.ini_text.specs.declared.error.Error.TheVariants as text_errors
use Rattle.ini_text.specs.declared.option.ParseOption.{ParseOption}
use Rattle.ini_text.specs.declared.write.option.LineSeparator.{LineSeparator}
use Rattle.ini_text.specs.declared.write.option.WriteOption.{WriteOption}
use Rattle.ini.specs.Texts.{Text}
use Rattle.ini_edit.specs.Inside.SourceEnds.{IsFound, IsNewPair, IsNoPlaceOrMemory, IsPlaceAt, made_pair}
use Rattle.ini_edit.specs.Inside.SourceEnds.{style_at}
use Rattle.ini_edit.specs.Inside.Spans.{AreSections}
use Rattle.ini_edit.specs.SourceEditsAdd.{GapPlace, Maker, end_at, first_place, pair_put_first, pair_put_last}
use Rattle.ini_edit.specs.SourceEditsAdded.{IsAddedIn, RefusesAdding, added, added_at, added_new, made}
use Rattle.ini_edit.specs.SourceEditsAdded.{new_line_end, style_after}
use Rattle.ini_edit.specs.SourceEdits.{with_pairs}
use Rattle.ini_edit.specs.SourcePlaces.{Place, edited_at, exchanged, is_nil, last_place, section_place}
use Rattle.ini_edit.specs.SourcePlaces.{with_after}
use Rattle.ini_edit.specs.SourceWritten.{IsFirstReadAs, IsWritableNew, Style, new_pair, value_forms}
use Rattle.ini_edit.specs.Sources.{PairPiece, Pieces, SectionPiece, given_section}
use Rattle.ini_edit.specs.declared.error.EditError.{EditError}
use Rattle.ini_edit.specs.declared.error.EditError.TheVariants as errors
use Rattle.ini_edit.specs.declared.source.written.NewPair.{NewPair}
use Rattle.ini_edit.proofs.NewStyleLemmas.{style_is_new}
use Rattle.ini_edit.proofs.PairAddLemmas.{added_document, added_stands}
use Rattle.ini_edit.proofs.PairPutLemmas.{same_made}
use Rattle.ini_edit.proofs.SourcePlaceLemmas.{place_read, place_set}

-- pairs that are made alike are put last alike
same_last : (o : ParseOption) (end : Text) {make other : Maker} (is_last : Bool) (s : SectionPiece)
    (pairs : List PairPiece)
    → ((indented : Bool) (lines rest : Text) → make indented lines rest ≡ other indented lines rest)
    → pair_put_last o end make is_last s pairs ≡ pair_put_last o end other is_last s pairs
same_last o end {make} {other} is_last s [] same = by (first_place o (is_none s.name) is_last s.after)
  where
    by : (q : Option GapPlace) → option_map (pair_put_first o end make s) q
        ≡ option_map (pair_put_first o end other s) q
    by None = refl
    by (Some q) =
        ap (λ p. Some (with_after (q.before ++ (if q.starts then [] else end)) (with_pairs s (p ∷ []))))
        (same true (end_at end q ++ q.lines) q.after)
same_last o end is_last s (p ∷ ps) same = ap Some (same_made o end s (last_place p ps) same)

-- a list with its place's index last has nothing after the place
last_there : {ss : List SectionPiece} {p : Place SectionPiece} {i : ℕ} → IsPlaceAt ss p i
    → (i + 1 == length ss) ≡ is_nil p.after
last_there {ss} {p} {i} at =
    by p.after (ap length at.whole ∙ length-append p.before (p.here ∷ p.after))
  where
    by : (after : List SectionPiece) → length ss ≡ length p.before + length (p.here ∷ after)
        → (i + 1 == length ss) ≡ is_nil after
    by [] count = eq-eqb (i + 1) (length ss) (omega (arith, count, at.index))
    by (x ∷ xs) count = ne_eqb (i + 1) (length ss) (λ e. omega (arith, count, at.index, e))

module _ (o : ParseOption) (w : WriteOption) (key value source : Text) (ss : List SectionPiece) {i : ℕ}
    (p : Place SectionPiece) (at : IsPlaceAt ss p i) where
  abbrev maker_there : Maker
  maker_there = made o w key value source (style_after o w ss p p.here.pairs)

  -- the pair at the end of the section
  abbrev pub put_there : Text → Option SectionPiece
  put_there end = pair_put_last o end maker_there (is_nil p.after) p.here p.here.pairs

  pub made_there : {style : Style} (pair : NewPair) {count : ℕ} → style ≡ style_at o w ss i count
      → IsNewPair w.escape_policy style key value source pair → count ≡ length p.here.pairs
      → (indented : Bool) (lines rest : Text)
      → made_pair o pair indented lines rest ≡ maker_there indented lines rest
  made_there pair {count} styled is counts indented lines rest =
      is o indented lines rest
      ∙ ap (λ z. new_pair o w.escape_policy z indented key value source lines rest)
      (styled ∙ style_is_new o w count at (take_all count p.here.pairs (omega (arith, counts))))

  pub put_so : (end : Text) (pair : NewPair) {here : SectionPiece} {is_last : Bool} {q : Option SectionPiece}
      → ((indented : Bool) (lines rest : Text)
      → made_pair o pair indented lines rest ≡ maker_there indented lines rest)
      → here ≡ p.here → is_last ≡ (i + 1 == length ss)
      → pair_put_last o end (made_pair o pair) is_last here here.pairs ≡ q → put_there end ≡ q
  put_so end pair {here} {is_last} same there last put =
      sym (ap (λ h. pair_put_last o end (made_pair o pair) is_last h h.pairs) there
      ∙ ap (λ b. pair_put_last o end (made_pair o pair) b p.here p.here.pairs) (last ∙ last_there at)
      ∙ same_last o end (is_nil p.after) p.here p.here.pairs same)
      ∙ put

  added_so : {end : Text} (name : Option Text) {q : Option SectionPiece} → section_place name ss ≡ Some p
      → end ≡ new_line_end w ss → put_there end ≡ q
      → added o w key value source name ss ≡ option_map (λ t. exchanged p (t ∷ [])) q
  added_so name found end put =
      ap (λ f. edited_at (added_at o w key value source ss) f (added_new o w key value source name ss)) found
      ∙ ap (option_map (λ t. exchanged p (t ∷ []))) (ap put_there (sym end) ∙ put)

  -- what the sections are then, and what the call gives
  pub stands_so : (sep : LineSeparator) (new : SectionPiece) → IsWritableNew o w key value
      → IsFirstReadAs o value (value_forms w.escape_policy [] value) source
      → put_there (line_end sep) ≡ Some new → AreSections o ss → AreSections o (set ss i new)
  stands_so sep new writable first put are =
      subst (AreSections o) (sym (place_set at new))
      (added_stands o w ss writable first at sep new p.here.pairs refl put are)

  is_added : (name : Option Text) (sep : LineSeparator) (new : SectionPiece) → IsWritableNew o w key value
      → IsFirstReadAs o value (value_forms w.escape_policy [] value) source
      → section_place name ss ≡ Some p → line_end sep ≡ new_line_end w ss
      → put_there (line_end sep) ≡ Some new
      → IsAddedIn o w (record { option = o; sections = ss }) (record { option = o; sections = set ss i new })
      name key value
  is_added name sep new writable first found end put = record {
    writable = writable;
    source = source;
    is_first = first;
    option = refl;
    sections = added_so name found end put ∙ ap Some (sym (place_set at new));
    document = ap (map given_section) (place_set at new)
        ∙ added_document o w ss writable first at (line_end sep) (is_nil p.after) new name found put;
  }

  refuses_so : (name : Option Text) {end : Text} → IsWritableNew o w key value
      → IsFirstReadAs o value (value_forms w.escape_policy [] value) source
      → section_place name ss ≡ Some p → end ≡ new_line_end w ss → put_there end ≡ None
      → RefusesAdding o w ss name key value errors.NoPlace
  refuses_so name writable first found end none =
      RefusesAdding.no_place writable
      (λ lacks. absurd (let no : ◌≡◌ {A = Option (Place SectionPiece)} None (Some p)
      = sym lacks.writable_section ∙ found in cc))
      first (added_so name found end none)

-- what the code puts in, in the section that it found
module _ (o : ParseOption) (w : WriteOption) (key value source : Text) (ss : List SectionPiece)
    {style : Style} {i count : ℕ} (name : Option Text) (found : IsFound ss (section_place name ss) i)
    (sep : LineSeparator) (pair : NewPair) (styled : style ≡ style_at o w ss i count)
    (end : line_end sep ≡ new_line_end w ss) (is : IsNewPair w.escape_policy style key value source pair)
    {here seen : SectionPiece} {is_last : Bool} (counts : count ≡ length seen.pairs)
    (writable : IsWritableNew o w key value)
    (first : IsFirstReadAs o value (value_forms w.escape_policy [] value) source)
    (last : is_last ≡ (i + 1 == length ss)) (read_seen : seen ≡ get_or ss i seen)
    (read_here : here ≡ get_or ss i here) where
  abbrev put_in : Option SectionPiece
  put_in = pair_put_last o (line_end sep) (made_pair o pair) is_last here here.pairs

  put_as : {q : Option SectionPiece} → put_in ≡ q
      → put_there o w key value source ss found.place found.at (line_end sep) ≡ q
  put_as put =
      put_so o w key value source ss found.place found.at (line_end sep) pair
      (made_there o w key value source ss found.place found.at pair styled is
      (counts ∙ ap (λ s. length s.pairs) (place_read found.at read_seen)))
      (place_read found.at read_here) last put

  pub there_put : {new : SectionPiece} → put_in ≡ Some new
      → (AreSections o ss → AreSections o (set ss i new))
      × IsAddedIn o w (record { option = o; sections = ss }) (record { option = o; sections = set ss i new })
      name key value
  there_put {new} put = (
    stands_so o w key value source ss found.place found.at sep new writable first (put_as put),
    is_added o w key value source ss found.place found.at name sep new writable first found.is end
        (put_as put),
  )

  pub there_refused : (e : EditError) → IsNoPlaceOrMemory put_in e → RefusesAdding o w ss name key value e
  there_refused errors.NoPlace none =
      refuses_so o w key value source ss found.place found.at name writable first found.is end (put_as none)
  there_refused (errors.Text (text_errors.Memory x)) h = RefusesAdding.unwritable tt
  there_refused (errors.Text (text_errors.Io x)) h = absurd h
  there_refused (errors.Text (text_errors.Parse x)) h = absurd h
  there_refused (errors.Text text_errors.NotUtf8) h = absurd h
  there_refused (errors.Text text_errors.NoProgress) h = absurd h
  there_refused errors.Value h = absurd h
  there_refused errors.Name h = absurd h
  there_refused errors.Key h = absurd h
  there_refused errors.Separator h = absurd h

-- the same of the code's own pieces
pub there_put_view : {t v : Pieces} → t ≡ v → (w : WriteOption) {key value source : Text} {style : Style}
    {i count : ℕ} (name : Option Text) (found : IsFound v.sections (section_place name v.sections) i)
    (sep : LineSeparator) (pair : NewPair) {here seen new : SectionPiece} {is_last : Bool}
    → style ≡ style_at v.option w v.sections i count → line_end sep ≡ new_line_end w v.sections
    → IsNewPair w.escape_policy style key value source pair → count ≡ length seen.pairs
    → IsWritableNew t.option w key value
    → IsFirstReadAs t.option value (value_forms w.escape_policy [] value) source
    → is_last ≡ (i + 1 == length t.sections) → seen ≡ get_or t.sections i seen
    → here ≡ get_or t.sections i here
    → pair_put_last t.option (line_end sep) (made_pair t.option pair) is_last here here.pairs ≡ Some new
    → (AreSections t.option t.sections → AreSections t.option (set t.sections i new))
    × IsAddedIn v.option w v (record { option = t.option; sections = set t.sections i new }) name key value
there_put_view {t} {v} same w {key} {value} {source} {i = i} name found sep pair {here} {seen} {new}
    {is_last} styled end is counts =
    subst (λ t. IsWritableNew t.option w key value
    → IsFirstReadAs t.option value (value_forms w.escape_policy [] value) source
    → is_last ≡ (i + 1 == length t.sections) → seen ≡ get_or t.sections i seen
    → here ≡ get_or t.sections i here
    → pair_put_last t.option (line_end sep) (made_pair t.option pair) is_last here here.pairs ≡ Some new
    → (AreSections t.option t.sections → AreSections t.option (set t.sections i new))
    × IsAddedIn v.option w v (record { option = t.option; sections = set t.sections i new }) name key value)
    (sym same)
    (λ writable first last read_seen read_here put.
    there_put v.option w key value source v.sections name found sep pair styled end is counts writable first
    last read_seen read_here put)

pub there_refused_view : {t v : Pieces} → t ≡ v → (w : WriteOption) {key value source : Text} {style : Style}
    {i count : ℕ} (name : Option Text) (found : IsFound v.sections (section_place name v.sections) i)
    (sep : LineSeparator) (pair : NewPair) {here seen : SectionPiece} {is_last : Bool} (e : EditError)
    → style ≡ style_at v.option w v.sections i count → line_end sep ≡ new_line_end w v.sections
    → IsNewPair w.escape_policy style key value source pair → count ≡ length seen.pairs
    → IsWritableNew t.option w key value
    → IsFirstReadAs t.option value (value_forms w.escape_policy [] value) source
    → is_last ≡ (i + 1 == length t.sections) → seen ≡ get_or t.sections i seen
    → here ≡ get_or t.sections i here
    → IsNoPlaceOrMemory
    (pair_put_last t.option (line_end sep) (made_pair t.option pair) is_last here here.pairs) e
    → RefusesAdding v.option w v.sections name key value e
there_refused_view {t} {v} same w {key} {value} {source} {i = i} name found sep pair {here} {seen} {is_last} e
    styled end is counts =
    subst (λ t. IsWritableNew t.option w key value
    → IsFirstReadAs t.option value (value_forms w.escape_policy [] value) source
    → is_last ≡ (i + 1 == length t.sections) → seen ≡ get_or t.sections i seen
    → here ≡ get_or t.sections i here
    → IsNoPlaceOrMemory
    (pair_put_last t.option (line_end sep) (made_pair t.option pair) is_last here here.pairs) e
    → RefusesAdding v.option w v.sections name key value e) (sym same)
    (λ writable first last read_seen read_here put.
    there_refused v.option w key value source v.sections name found sep pair styled end is counts writable
    first last read_seen read_here e put)
