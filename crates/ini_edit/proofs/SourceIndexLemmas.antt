-- Edits of a text in pieces at an index of a section, and of a pair in it.
use Rattle.std.proofs.Common.{◌≡◌, ◌∙◌, ◌<◌, ◌≤◌, ◌+◌, ◌==◌, ℕ, suc, zero, Bool, List, [], ◌∷◌, ◌++◌, None}
use Rattle.std.proofs.Common.{Option, Some, ap, arith, get_or, length, map, refl, set, subst, sym}
use Rattle.std.proofs.lemmas.List.{length-map, map-append}
use Rattle.std.specs.List.{remove}
use Rattle.std.specs.Option.{option_and_then, option_map}
use Rattle.ini_text.specs.Escaping.EscapedTexts.{escaped}
use Rattle.ini_text.specs.Grammar.CharacterKinds.{line_feed}
use Rattle.ini_text.specs.Grammar.Positions.{last_or}
use Rattle.ini_text.specs.Options.WriteOptions.{line_end}
use Rattle.ini_text.specs.declared.error.Error.TheVariants as text_errors
use Rattle.ini_text.specs.declared.option.ParseOption.{ParseOption}
use Rattle.ini_text.specs.declared.write.option.LineSeparator.{LineSeparator}
use Rattle.ini_text.specs.declared.write.option.WriteOption.{WriteOption}
use Rattle.ini_text.specs.declared.write.policy.EscapePolicy.{EscapePolicy}
use Rattle.ini.specs.Properties.{Pairs}
use Rattle.ini.specs.Texts.{Text}
use Rattle.ini_edit.specs.Inside.SourceEnds.{IsFound, IsNewPair, IsNoPlaceOrMemory, IsPairAt, IsPlaceAt}
use Rattle.ini_edit.specs.Inside.SourceEnds.{IsRenamedAt, IsSetAt, last_before, made_pair, style_at}
use Rattle.ini_edit.specs.Inside.SourceSteps.{RenamesPair}
use Rattle.ini_edit.specs.Inside.Spans.{AreSections, gap}
use Rattle.ini_edit.specs.Renamed.{HasEdges, IsPlainBareKey}
use Rattle.ini_edit.specs.SourceEdits.{with_key, with_pairs}
use Rattle.ini_edit.specs.SourceEditsAdd.{pair_put_last}
use Rattle.ini_edit.specs.SourceEditsAdded.{added_at, new_line_end}
use Rattle.ini_edit.specs.SourceEditsAt.{IsAddedAtIndex, IsCommentedAtIndex, IsCommentedOutAtIndex}
use Rattle.ini_edit.specs.SourceEditsAt.{IsKeyRenamedAtIndex, IsSetAtIndex, RefusesAtIndex}
use Rattle.ini_edit.specs.SourceEditsAt.{RefusesCommentAtIndex, at_index, at_section, deleted_at_index}
use Rattle.ini_edit.specs.SourceEditsAt.{indexed_pair, indexed_place}
use Rattle.ini_edit.specs.SourceEditsComments.{IsCommentText, IsCommented, RefusesComment, comment_put}
use Rattle.ini_edit.specs.SourceEditsComments.{pair_commented_out}
use Rattle.ini_edit.specs.SourceEditsDelete.{deleted_at, pair_taken_out}
use Rattle.ini_edit.specs.SourceEditsSet.{pair_changed_at, with_value_before}
use Rattle.ini_edit.specs.SourcePlaces.{PairPlace, Place, edited_at, exchanged, is_nil, last_before_section}
use Rattle.ini_edit.specs.SourcePlaces.{one_on, pair_place}
use Rattle.ini_edit.specs.SourceWritten.{IsFirstReadAs, IsWritableNew, Style, value_forms}
use Rattle.ini_edit.specs.Sources.{PairPiece, Pieces, SectionPiece, given_pair, given_section, sections_text}
use Rattle.ini_edit.specs.declared.error.EditError.{EditError}
use Rattle.ini_edit.specs.declared.error.EditError.TheVariants as errors
use Rattle.ini_edit.specs.declared.source.written.NewPair.{NewPair}
use Rattle.ini_edit.proofs.AddSourceLemmas.{made_there, put_so, put_there, stands_so}
use Rattle.ini_edit.proofs.DeletedSourceLemmas.{placed_in, taken_given}
use Rattle.ini_edit.proofs.PairAddLemmas.{gives_last}
use Rattle.ini_edit.proofs.SourcePlaceLemmas.{place_read, place_remove, place_set, place_take}
use Rattle.ini_edit.proofs.SourceCommentLemmas.{comment_document, comment_exchanged, out_exchanged, out_given}
use Rattle.ini_edit.proofs.SourceRenameLemmas.{spans_renamed}
use Rattle.ini_edit.proofs.SourceSpanLemmas.{pairs_put_in, spans_after_pairs, spans_before_pairs}
use Rattle.ini_edit.proofs.SourceWrittenLemmas.{before_given, changed_in, here_read}
use Rattle.ini_edit.proofs.TakenLemmas.{sections_taken}

-- the place at an index that a list has, and none where it hasn't
pub indexed_some : {A : Type 0} (xs : List A) (i : ℕ) → i < length xs → IsFound xs (indexed_place i xs) i
indexed_some [] i within = absurd (omega (arith, within))
indexed_some (x ∷ xs) zero within = record {
  place = record { before = []; here = x; after = xs };
  is = refl;
  at = record { whole = refl; index = refl };
}
indexed_some (x ∷ xs) (suc i) within =
    let more = indexed_some xs i (omega (arith, within)) in
    record {
      place = one_on x more.place;
      is = ap (option_map (one_on x)) more.is;
      at = record { whole = ap (λ l. x ∷ l) more.at.whole; index = ap suc more.at.index };
    }

pub indexed_none : {A : Type 0} (xs : List A) (i : ℕ) → length xs ≤ i → indexed_place i xs ≡ None
indexed_none [] zero out = refl
indexed_none [] (suc i) out = refl
indexed_none (x ∷ xs) zero out = absurd (omega (arith, out))
indexed_none (x ∷ xs) (suc i) out = ap (option_map (one_on x)) (indexed_none xs i (omega (arith, out)))

abbrev pairs_of : ℕ → Place SectionPiece → Option PairPlace
pairs_of j s = option_map (placed_in s) (indexed_place j s.here.pairs)

-- the same of a pair, by the section that is read at its index
module _ (ss : List SectionPiece) {i : ℕ} {x : SectionPiece} (there : i < length ss)
    (read : x ≡ get_or ss i x) where
  section_found : IsFound ss (indexed_place i ss) i
  section_found = indexed_some ss i there

  section_is : x ≡ section_found.place.here
  section_is = place_read section_found.at read

  pub pair_some : {j : ℕ} → j < length x.pairs → IsPairAt (indexed_pair i j ss) ss i j
  pair_some {j} within =
      let s = section_found.place in
      let found = indexed_some s.here.pairs j (subst (λ y. j < length y.pairs) section_is within) in
      record {
        place = record { section = s; pair = found.place };
        is = ap (option_and_then (pairs_of j)) section_found.is
            ∙ ap (option_map (placed_in s)) found.is;
        section = section_found.at;
        pair = found.at;
      }

  pub pair_none : {j : ℕ} → length x.pairs ≤ j → indexed_pair i j ss ≡ None
  pair_none {j} out =
      let s = section_found.place in
      ap (option_and_then (pairs_of j)) section_found.is
      ∙ ap (option_map (placed_in s))
      (indexed_none s.here.pairs j (subst (λ y. length y.pairs ≤ j) section_is out))

pub pair_nowhere : (ss : List SectionPiece) (i j : ℕ) → length ss ≤ i → indexed_pair i j ss ≡ None
pair_nowhere ss i j out = ap (option_and_then (pairs_of j)) (indexed_none ss i out)

-- the place of an item at its index, and of a pair at its indices, however it was found
place_indexed : {A : Type 0} {xs : List A} {p : Place A} {i : ℕ} → IsPlaceAt xs p i
    → indexed_place i xs ≡ Some p
place_indexed {A} {xs} {p} at =
    ap (λ n. indexed_place n xs) at.index ∙ ap (indexed_place (length p.before)) at.whole ∙ by p.before
  where
    by : (before : List A) → indexed_place (length before) (before ++ p.here ∷ p.after)
        ≡ Some (record { before = before; here = p.here; after = p.after })
    by [] = refl
    by (x ∷ xs) = ap (option_map (one_on x)) (by xs)

module _ {found : Option PairPlace} {ss : List SectionPiece} {i j : ℕ} (at : IsPairAt found ss i j) where
  there_indexed : indexed_pair i j ss ≡ Some at.place
  there_indexed =
      ap (option_and_then (pairs_of j)) (place_indexed at.section)
      ∙ ap (option_map (placed_in at.place.section)) (place_indexed at.pair)

  pub pair_indexed : IsPairAt (indexed_pair i j ss) ss i j
  pair_indexed = record {
    place = at.place;
    is = there_indexed;
    section = at.section;
    pair = at.pair;
  }

  pub found_indexed : indexed_pair i j ss ≡ found
  found_indexed = there_indexed ∙ sym at.is

-- a list edited at a place's index, and a list of what is seen of it
module _ {A : Type 0} {xs : List A} {p : Place A} {i : ℕ} (at : IsPlaceAt xs p i) where
  pub place_edited : (f : A → A) → at_index i f xs ≡ exchanged p (f p.here ∷ [])
  place_edited f =
      ap (at_index i f) at.whole ∙ ap (λ n. at_index n f (p.before ++ p.here ∷ p.after)) at.index
      ∙ by p.before
    where
      by : (before : List A) → at_index (length before) f (before ++ p.here ∷ p.after)
          ≡ before ++ f p.here ∷ p.after
      by [] = refl
      by (x ∷ xs) = ap (λ l. x ∷ l) (by xs)

  pub place_seen : {B : Type 0} (view : A → B)
      → IsPlaceAt (map view xs)
      (record { before = map view p.before; here = view p.here; after = map view p.after }) i
  place_seen view = record {
    whole = ap (map view) at.whole ∙ map-append view p.before (p.here ∷ p.after);
    index = at.index ∙ sym (length-map p.before view);
  }

-- the document with a section's pairs edited
pub section_edited : {ss : List SectionPiece} {s : Place SectionPiece} {i : ℕ} → IsPlaceAt ss s i
    → (new : SectionPiece) (f : Pairs → Pairs)
    → given_section new ≡ (s.here.name, f (map given_pair s.here.pairs))
    → map given_section (set ss i new) ≡ at_section i f (map given_section ss)
section_edited {ss} {s} {i} at new f same =
    ap (map given_section) (place_set at new)
    ∙ map-append given_section s.before (new ∷ s.after)
    ∙ ap (λ g. map given_section s.before ++ g ∷ map given_section s.after) same
    ∙ sym (place_edited (place_seen at given_section) (λ g. (g.0, f g.1)))

-- a value set
module _ {o : ParseOption} {policy : EscapePolicy} {value : Text} {ss : List SectionPiece} {i j : ℕ}
    (at : IsPairAt (indexed_pair i j ss) ss i j) {s new : SectionPiece} (read : s ≡ get_or ss i s)
    (is : IsSetAt o policy value s new at.place.pair) where
  there_set : IsSetAt o policy value at.place.section.here new at.place.pair
  there_set = subst (λ s. IsSetAt o policy value s new at.place.pair) (here_read at read) is

  pub set_indexed : IsSetAtIndex o policy (record { option = o; sections = ss })
      (record { option = o; sections = set ss i new }) i j value
  set_indexed =
      let p = at.place.pair in
      let h = at.place.section.here in
      record {
        place = at.place;
        was = at.is;
        source = there_set.source;
        is_written = there_set.is_written;
        option = refl;
        sections = place_set at.section new ∙ ap (λ t. exchanged at.place.section (t ∷ [])) there_set.is;
        document = section_edited at.section new (at_index j (λ q. (q.0, value)))
            (ap given_section there_set.is
            ∙ ap (λ g. (h.name, g))
            (map-append given_pair p.before
            (with_value_before o there_set.source value p.after p.here ∷ p.after)
            ∙ ap (λ g. map given_pair p.before ++ g ∷ map given_pair p.after)
            (before_given o there_set.source value p.after p.here)
            ∙ sym (place_edited (place_seen at.pair given_pair) (λ q. (q.0, value)))));
      }

-- a key renamed
module _ {o : ParseOption} {policy : EscapePolicy} {other : Text} {ss : List SectionPiece} {i j : ℕ}
    (at : IsPairAt (indexed_pair i j ss) ss i j) {s new : SectionPiece} (read : s ≡ get_or ss i s)
    (is : IsRenamedAt o policy other s new at.place.pair) where
  there_renamed : IsRenamedAt o policy other at.place.section.here new at.place.pair
  there_renamed = subst (λ s. IsRenamedAt o policy other s new at.place.pair) (here_read at read) is

  abbrev named_so : PairPiece → PairPiece
  named_so = with_key (there_renamed.indent ++ (escaped policy other ++ there_renamed.pad)) other

  sections_named : set ss i new ≡ pair_changed_at named_so at.place
  sections_named =
      place_set at.section new ∙ ap (λ t. exchanged at.place.section (t ∷ [])) there_renamed.is

  pub renamed_stands : IsPlainBareKey o policy other → AreSections o ss → AreSections o (set ss i new)
  renamed_stands plain are =
      let s = at.place.section in
      let p = at.place.pair in
      subst (AreSections o) (sym sections_named)
      (pairs_put_in o at.section p.before (p.here ∷ []) (named_so p.here ∷ []) p.after at.pair.whole
      (spans_renamed plain p.here there_renamed.edges (spans_before_pairs s p.before)
      (gap p.here.after ∷ spans_after_pairs s p.after)) are)

  pub renamed_indexed : IsKeyRenamedAtIndex o policy (record { option = o; sections = ss })
      (record { option = o; sections = set ss i new }) i j other
  renamed_indexed =
      let p = at.place.pair in
      let h = at.place.section.here in
      record {
        place = at.place;
        was = at.is;
        indent = there_renamed.indent;
        pad = there_renamed.pad;
        edges = there_renamed.edges;
        option = refl;
        sections = sections_named;
        document = section_edited at.section new (at_index j (λ q. (other, q.1)))
            (ap given_section there_renamed.is
            ∙ ap (λ g. (h.name, g))
            (map-append given_pair p.before (named_so p.here ∷ p.after)
            ∙ sym (place_edited (place_seen at.pair given_pair) (λ q. (other, q.1)))));
      }

-- by the pair that is read in the section
pub key_put_at : {o : ParseOption} {policy : EscapePolicy} {other : Text} {s t : SectionPiece} {i : ℕ}
    {y z : PairPiece} (p : Place PairPiece) → t ≡ s → IsPlaceAt s.pairs p i → y ≡ get_or t.pairs i y
    → RenamesPair o policy y z other → IsRenamedAt o policy other s (with_pairs t (set t.pairs i z)) p
key_put_at {o} {policy} {other} {s} {t} {i} p same at is h =
    let there = place_read (subst (λ s. IsPlaceAt s.pairs p i) (sym same) at) is in
    record {
      indent = h.indent;
      pad = h.pad;
      edges = subst (λ q. HasEdges o q.stretches.key h.indent h.pad) there h.edges;
      is = changed_in (with_key (h.indent ++ (escaped policy other ++ h.pad)) other) p same at is h.is;
    }

-- a pair made comments
pub out_indexed : (o : ParseOption) (ss : List SectionPiece) {i j : ℕ}
    (at : IsPairAt (indexed_pair i j ss) ss i j) {new : SectionPiece}
    → pair_commented_out o (last_before_section at.place.section) at.place.section.here at.place.pair ≡ Some new
    → IsCommentedOutAtIndex o (record { option = o; sections = ss })
    (record { option = o; sections = set ss i new }) i j
out_indexed o ss {i} {j} at {new} put =
    let p = at.place.pair in
    record {
      place = at.place;
      was = at.is;
      option = refl;
      sections = out_exchanged o ss at put;
      document = section_edited at.section new (λ pairs. remove pairs j)
          (out_given o ss at put
          ∙ ap (λ g. (at.place.section.here.name, g))
          (map-append given_pair p.before p.after ∙ sym (place_remove (place_seen at.pair given_pair))));
    }

-- comments put above a pair
pub comment_indexed : (o : ParseOption) (w : WriteOption) (ss : List SectionPiece) {i j : ℕ}
    (at : IsPairAt (indexed_pair i j ss) ss i j) (comment : Text) {new : SectionPiece}
    → IsCommentText comment
    → comment_put o (new_line_end w ss) comment (last_before_section at.place.section) at.place.section.here
    at.place.pair ≡ Some new
    → IsCommentedAtIndex o w (record { option = o; sections = ss })
    (record { option = o; sections = set ss i new }) i j comment
comment_indexed o w ss at comment text put = record {
  is_comment = text;
  place = at.place;
  was = at.is;
  option = refl;
  sections = comment_exchanged o w ss at comment put;
  document = comment_document o w ss at comment put;
}

-- the first one of a key
module _ {o : ParseOption} {w : WriteOption} {name : Option Text} {key comment : Text} {i j : ℕ} where
  pub commented_first : {old new : Pieces}
      → IsPairAt (pair_place name key 0 old.sections) old.sections i j
      → IsCommentedAtIndex o w old new i j comment → IsCommented o w old new name key comment
  commented_first at is = record {
    is_comment = is.is_comment;
    at = is.place;
    was = sym (found_indexed at) ∙ is.was;
    option = is.option;
    sections = is.sections;
    document = is.document;
  }

  pub refused_first : {ss : List SectionPiece} {e : EditError} → IsPairAt (pair_place name key 0 ss) ss i j
      → RefusesCommentAtIndex o w ss i j comment e → RefusesComment o w ss name key comment e
  refused_first at (RefusesCommentAtIndex.no_comment_at other) = RefusesComment.no_comment other
  refused_first at (RefusesCommentAtIndex.no_place_bare_at text was none) =
      RefusesComment.no_place_bare text (sym (found_indexed at) ∙ was) none
  refused_first at (RefusesCommentAtIndex.no_memory_above text) = RefusesComment.no_memory text

-- a pair taken out
module _ {ss : List SectionPiece} {i j : ℕ} (at : IsPairAt (indexed_pair i j ss) ss i j)
    {y : SectionPiece} (read : y ≡ get_or ss i y) where
  pub pair_read : IsPlaceAt y.pairs at.place.pair j
  pair_read = subst (λ s. IsPlaceAt s.pairs at.place.pair j) (sym (here_read at read)) at.pair

  module _ (o : ParseOption) (new : SectionPiece) (front : ℕ) (before : front ≡ last_before ss i)
      (taken : (p : Place PairPiece) → IsPlaceAt y.pairs p j → new ≡ pair_taken_out o front y p) where
    taken_there : new
        ≡ pair_taken_out o (last_before_section at.place.section) at.place.section.here at.place.pair
    taken_there =
        taken at.place.pair pair_read
        ∙ ap (λ f. pair_taken_out o f y at.place.pair) (before ∙ last_there)
        ∙ ap (λ s. pair_taken_out o (last_before_section at.place.section) s at.place.pair)
        (here_read at read)
      where
        last_there : last_before ss i ≡ last_before_section at.place.section
        last_there = ap (λ l. last_or line_feed (sections_text l)) (place_take at.section)

    pub taken_indexed : set ss i new ≡ deleted_at_index o i j ss
    taken_indexed =
        place_set at.section new ∙ ap (λ s. exchanged at.place.section (s ∷ [])) taken_there
        ∙ ap (λ p. edited_at (deleted_at o) p ss) (sym at.is)

    pub taken_stands : AreSections o ss → AreSections o (set ss i new)
    taken_stands are =
        let s = at.place.section in
        let p = at.place.pair in
        subst (AreSections o)
        (sym (place_set at.section new ∙ ap (λ t. exchanged s (t ∷ [])) taken_there))
        (sections_taken s.before s.here s.after p.here p.after p.before
        (subst (AreSections o) (at.section.whole
        ∙ ap (λ ps. s.before ++ with_pairs s.here ps ∷ s.after) at.pair.whole) are))

    pub taken_document : map given_section (set ss i new)
        ≡ at_section i (λ pairs. remove pairs j) (map given_section ss)
    taken_document =
        let s = at.place.section in
        let p = at.place.pair in
        section_edited at.section new (λ pairs. remove pairs j)
        (ap given_section taken_there
        ∙ taken_given o (last_before_section s) s.here p
        ∙ ap (λ g. (s.here.name, g))
        (map-append given_pair p.before p.after ∙ sym (place_remove (place_seen at.pair given_pair))))

-- a pair added
module _ (o : ParseOption) (w : WriteOption) (key value source : Text) (ss : List SectionPiece)
    {style : Style} {i count : ℕ} (there : i < length ss)
    (sep : LineSeparator) (pair : NewPair) (styled : style ≡ style_at o w ss i count)
    (end : line_end sep ≡ new_line_end w ss) (is : IsNewPair w.escape_policy style key value source pair)
    {here seen : SectionPiece} {is_last : Bool} (counts : count ≡ length seen.pairs)
    (writable : IsWritableNew o w key value)
    (first : IsFirstReadAs o value (value_forms w.escape_policy [] value) source)
    (last : is_last ≡ (i + 1 == length ss)) (read_seen : seen ≡ get_or ss i seen)
    (read_here : here ≡ get_or ss i here) where
  found : IsFound ss (indexed_place i ss) i
  found = indexed_some ss i there

  abbrev put_in : Option SectionPiece
  put_in = pair_put_last o (line_end sep) (made_pair o pair) is_last here here.pairs

  put_as : {q : Option SectionPiece} → put_in ≡ q
      → put_there o w key value source ss found.place found.at (line_end sep) ≡ q
  put_as put =
      put_so o w key value source ss found.place found.at (line_end sep) pair
      (made_there o w key value source ss found.place found.at pair styled is
      (counts ∙ ap (λ s. length s.pairs) (place_read found.at read_seen)))
      (place_read found.at read_here) last put

  added_as : {q : Option SectionPiece} → put_in ≡ q
      → added_at o w key value source ss found.place ≡ option_map (λ t. exchanged found.place (t ∷ [])) q
  added_as put =
      ap (option_map (λ t. exchanged found.place (t ∷ [])))
      (ap (put_there o w key value source ss found.place found.at) (sym end) ∙ put_as put)

  pub indexed_put : {new : SectionPiece} → put_in ≡ Some new
      → (AreSections o ss → AreSections o (set ss i new))
      × IsAddedAtIndex o w (record { option = o; sections = ss })
      (record { option = o; sections = set ss i new }) i key value
  indexed_put {new} put = (
    stands_so o w key value source ss found.place found.at sep new writable first (put_as put),
    record {
      writable = writable;
      source = source;
      is_first = first;
      place = found.place;
      was = found.is;
      option = refl;
      sections = added_as put ∙ ap Some (sym (place_set found.at new));
      document = section_edited found.at new (λ pairs. pairs ++ (key, value) ∷ [])
          (gives_last o w ss writable first found.at (line_end sep) (is_nil found.place.after) new
          found.place.here.pairs refl (put_as put));
    },
  )

  pub indexed_refused : (e : EditError) → IsNoPlaceOrMemory put_in e → RefusesAtIndex o w ss i key value e
  indexed_refused errors.NoPlace none =
      RefusesAtIndex.no_place_there writable first found.is (added_as none)
  indexed_refused (errors.Text (text_errors.Memory x)) h = RefusesAtIndex.unwritable_there tt
  indexed_refused (errors.Text (text_errors.Io x)) h = absurd h
  indexed_refused (errors.Text (text_errors.Parse x)) h = absurd h
  indexed_refused (errors.Text text_errors.NotUtf8) h = absurd h
  indexed_refused (errors.Text text_errors.NoProgress) h = absurd h
  indexed_refused errors.Value h = absurd h
  indexed_refused errors.Name h = absurd h
  indexed_refused errors.Key h = absurd h
  indexed_refused errors.Separator h = absurd h

-- the same of the code's own pieces
pub indexed_put_view : {t v : Pieces} → t ≡ v → (w : WriteOption) {key value source : Text} {style : Style}
    {i count : ℕ} (sep : LineSeparator) (pair : NewPair) {here seen new : SectionPiece} {is_last : Bool}
    → style ≡ style_at v.option w v.sections i count → line_end sep ≡ new_line_end w v.sections
    → IsNewPair w.escape_policy style key value source pair → count ≡ length seen.pairs
    → IsWritableNew t.option w key value
    → IsFirstReadAs t.option value (value_forms w.escape_policy [] value) source
    → i < length t.sections → is_last ≡ (i + 1 == length t.sections) → seen ≡ get_or t.sections i seen
    → here ≡ get_or t.sections i here
    → pair_put_last t.option (line_end sep) (made_pair t.option pair) is_last here here.pairs ≡ Some new
    → (AreSections t.option t.sections → AreSections t.option (set t.sections i new))
    × IsAddedAtIndex v.option w v (record { option = t.option; sections = set t.sections i new }) i key value
indexed_put_view {t} {v} same w {key} {value} {source} {i = i} sep pair {here} {seen} {new} {is_last} styled
    end is counts =
    subst (λ t. IsWritableNew t.option w key value
    → IsFirstReadAs t.option value (value_forms w.escape_policy [] value) source
    → i < length t.sections → is_last ≡ (i + 1 == length t.sections) → seen ≡ get_or t.sections i seen
    → here ≡ get_or t.sections i here
    → pair_put_last t.option (line_end sep) (made_pair t.option pair) is_last here here.pairs ≡ Some new
    → (AreSections t.option t.sections → AreSections t.option (set t.sections i new))
    × IsAddedAtIndex v.option w v (record { option = t.option; sections = set t.sections i new }) i key
    value) (sym same)
    (λ writable first there last read_seen read_here put.
    indexed_put v.option w key value source v.sections there sep pair styled end is counts writable first
    last read_seen read_here put)

pub indexed_refused_view : {t v : Pieces} → t ≡ v → (w : WriteOption) {key value source : Text}
    {style : Style} {i count : ℕ} (sep : LineSeparator) (pair : NewPair) {here seen : SectionPiece}
    {is_last : Bool} (e : EditError)
    → style ≡ style_at v.option w v.sections i count → line_end sep ≡ new_line_end w v.sections
    → IsNewPair w.escape_policy style key value source pair → count ≡ length seen.pairs
    → IsWritableNew t.option w key value
    → IsFirstReadAs t.option value (value_forms w.escape_policy [] value) source
    → i < length t.sections → is_last ≡ (i + 1 == length t.sections) → seen ≡ get_or t.sections i seen
    → here ≡ get_or t.sections i here
    → IsNoPlaceOrMemory
    (pair_put_last t.option (line_end sep) (made_pair t.option pair) is_last here here.pairs) e
    → RefusesAtIndex v.option w v.sections i key value e
indexed_refused_view {t} {v} same w {key} {value} {source} {i = i} sep pair {here} {seen} {is_last} e styled
    end is counts =
    subst (λ t. IsWritableNew t.option w key value
    → IsFirstReadAs t.option value (value_forms w.escape_policy [] value) source
    → i < length t.sections → is_last ≡ (i + 1 == length t.sections) → seen ≡ get_or t.sections i seen
    → here ≡ get_or t.sections i here
    → IsNoPlaceOrMemory
    (pair_put_last t.option (line_end sep) (made_pair t.option pair) is_last here here.pairs) e
    → RefusesAtIndex v.option w v.sections i key value e) (sym same)
    (λ writable first there last read_seen read_here put.
    indexed_refused v.option w key value source v.sections there sep pair styled end is counts writable
    first last read_seen read_here e put)
