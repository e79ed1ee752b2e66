-- A new pair put into a text in pieces, directly after another.
use Rattle.std.proofs.Common.{◌≡◌, ◌∙◌, ◌+◌, ℕ, Bool, true, false, not, List, [], ◌∷◌, ◌++◌, Option, ap}
use Rattle.std.proofs.Common.{append_assoc, get_or, if◌then◌else◌, set, subst, sym}
use Rattle.ini_text.specs.Laws.Plain.{IsPlainKey}
use Rattle.ini_text.specs.Options.WriteOptions.{line_end}
use Rattle.ini_text.specs.declared.option.ParseOption.{ParseOption}
use Rattle.ini_text.specs.declared.write.option.LineSeparator.{LineSeparator}
use Rattle.ini_text.specs.declared.write.option.LineSeparator.TheVariants.{SystemDefault, CR, CRLF}
use Rattle.ini_text.specs.declared.write.option.WriteOption.{WriteOption}
use Rattle.ini_text.specs.declared.write.policy.EscapePolicy.{EscapePolicy}
use Rattle.ini.specs.Texts.{Text}
use Rattle.ini_edit.specs.Inside.SourceEnds.{IsNewPair, IsPairAt, IsPlaceAt, made_pair, style_at}
use Rattle.ini_edit.specs.Inside.Spans.{AreSections}
use Rattle.ini_edit.specs.SourceEdits.{with_pairs}
use Rattle.ini_edit.specs.SourceEditsAdd.{Maker, end_after, pair_put_after, with_line_ended}
use Rattle.ini_edit.specs.SourceEditsAdded.{inserted_after, made, new_line_end, style_after}
use Rattle.ini_edit.specs.SourceEditsDelete.{empty_comment, gap_after, lines_after, would_be_taken}
use Rattle.ini_edit.specs.SourcePlaces.{PairPlace, Place, exchanged}
use Rattle.ini_edit.specs.SourceWritten.{IsFirstReadAs, IsWritableNew, Style, new_pair, value_forms}
use Rattle.ini_edit.specs.Sources.{PairPiece, Pieces, SectionPiece}
use Rattle.ini_edit.specs.declared.source.written.NewPair.{NewPair}
use Rattle.ini_edit.proofs.NewPairLemmas.{IsPlainStyle, IsReadKey, IsSourceFor, read_key}
use Rattle.ini_edit.proofs.NewStyleLemmas.{new_style_plain, source_for, style_is_new}
use Rattle.ini_edit.proofs.PutAfterLemmas.{put_after}
use Rattle.ini_edit.proofs.PutAfterMoreLemmas.{put_after_more}
use Rattle.ini_edit.proofs.SourceAddLemmas.{feed_end, return_end}
use Rattle.ini_edit.proofs.SourcePlaceLemmas.{place_read, place_set, place_take_more}

-- the sections with a new pair after one, by any options
pub put_after_any : (o : ParseOption) (sep : LineSeparator) {policy : EscapePolicy} {key value source :
    Text}
    {style : Style} {ss : List SectionPiece} {s : Place SectionPiece} {i : ℕ}
    → IsPlainKey o policy key → IsReadKey o policy key → IsPlainStyle o style → IsSourceFor o source value
    → IsPlaceAt ss s i → (p : Place PairPiece) → s.here.pairs ≡ p.before ++ p.here ∷ p.after
    → AreSections o ss
    → AreSections o (exchanged s (pair_put_after o (line_end sep)
    (λ indented lines rest. new_pair o policy style indented key value source lines rest) s.here p ∷ []))
put_after_any o sep {policy} {key} {value} {source} {style} {ss} {s} {i} plain read_back is given at p
    whole are =
    by o.enabled_indented_mutiline_value plain read_back is given are
  where
    with_lines : Bool → ParseOption
    with_lines b = record o { enabled_indented_mutiline_value = b }

    one : (sep : LineSeparator) → IsPlainKey (with_lines false) policy key
        → IsReadKey (with_lines false) policy key
        → IsPlainStyle (with_lines false) style → IsSourceFor (with_lines false) source value
        → AreSections (with_lines false) ss
        → AreSections (with_lines false) (exchanged s (pair_put_after (with_lines false) (line_end sep)
        (λ indented lines rest. new_pair (with_lines false) policy style indented key value source
        lines rest)
        s.here p ∷ []))
    one SystemDefault plain read_back is given are =
        put_after o plain read_back is given feed_end at p whole are
    one CR plain read_back is given are = put_after o plain read_back is given feed_end at p whole are
    one CRLF plain read_back is given are = put_after o plain read_back is given return_end at p whole are

    by : (b : Bool) → IsPlainKey (with_lines b) policy key → IsReadKey (with_lines b) policy key
        → IsPlainStyle (with_lines b) style → IsSourceFor (with_lines b) source value
        → AreSections (with_lines b) ss
        → AreSections (with_lines b) (exchanged s (pair_put_after (with_lines b) (line_end sep)
        (λ indented lines rest. new_pair (with_lines b) policy style indented key value source lines rest)
        s.here p ∷ []))
    by true plain read_back is given are = put_after_more o sep plain read_back is given at p whole are
    by false plain read_back is given are = one sep plain read_back is given are

-- pairs that are made alike are put in alike
pub same_made : (o : ParseOption) (end : Text) {make other : Maker} (s : SectionPiece) (p : Place PairPiece)
    → ((indented : Bool) (lines rest : Text) → make indented lines rest ≡ other indented lines rest)
    → pair_put_after o end make s p ≡ pair_put_after o end other s p
same_made o end {make} {other} s p same =
    let new = end_after o end p.here ++ lines_after o p.here in
    let kept = empty_comment end ++ gap_after o p.here in
    ap (λ q. with_pairs s (exchanged p (with_line_ended o end p.here ∷ q ∷ [])))
    (ap (λ q. if would_be_taken o p.here p.after then q
    else make (not o.enabled_indented_mutiline_value) new (gap_after o p.here))
    (same false end kept)
    ∙ ap (λ q. if would_be_taken o p.here p.after then other false end kept else q)
    (same (not o.enabled_indented_mutiline_value) new (gap_after o p.here)))

module _ (o : ParseOption) (w : WriteOption) (ss : List SectionPiece) {key value source : Text}
    (writable : IsWritableNew o w key value)
    (first : IsFirstReadAs o value (value_forms w.escape_policy [] value) source)
    {found : Option PairPlace} {i j : ℕ} (at : IsPairAt found ss i j) where
  abbrev up_to : List PairPiece
  up_to = at.place.pair.before ++ at.place.pair.here ∷ []

  whole : at.place.section.here.pairs ≡ up_to ++ at.place.pair.after
  whole = at.pair.whole ∙ sym (append_assoc at.place.pair.before (at.place.pair.here ∷ [])
      at.place.pair.after)

  -- the code's sections are those that are defined
  pub inserted_is : (sep : LineSeparator) {style : Style} {make : Maker} {here new : SectionPiece}
      → style ≡ style_at o w ss i (j + 1)
      → ((indented : Bool) (lines rest : Text) → make indented lines rest
      ≡ new_pair o w.escape_policy style indented key value source lines rest)
      → line_end sep ≡ new_line_end w ss → here ≡ at.place.section.here
      → ((p : Place PairPiece) → IsPlaceAt here.pairs p j
      → new ≡ pair_put_after o (line_end sep) make here p)
      → set ss i new ≡ inserted_after o w key value source ss at.place
  inserted_is sep {style} {make} {here} {new} styled is end same put =
      let p = at.place.pair in
      let there = subst (λ s. IsPlaceAt s.pairs p j) (sym same) at.pair in
      let new_style = style_after o w ss at.place.section up_to in
      let style_is : style ≡ new_style =
      styled ∙ style_is_new o w (j + 1) at.section (place_take_more at.pair) in
      place_set at.section new
      ∙ ap (λ t. exchanged at.place.section (t ∷ []))
      (put p there
      ∙ ap (λ s. pair_put_after o (line_end sep) make s p) same
      ∙ same_made o (line_end sep) at.place.section.here p is
      ∙ ap (λ z. pair_put_after o (line_end sep) (made o w key value source z) at.place.section.here p)
      style_is
      ∙ ap (λ e. pair_put_after o e (made o w key value source new_style) at.place.section.here p) end)

  pub inserted_stands : (sep : LineSeparator) → line_end sep ≡ new_line_end w ss → AreSections o ss
      → AreSections o (inserted_after o w key value source ss at.place)
  inserted_stands sep end are =
      subst (λ e. AreSections o (exchanged at.place.section (pair_put_after o e
      (made o w key value source (style_after o w ss at.place.section up_to)) at.place.section.here
      at.place.pair ∷ []))) end
      (put_after_any o sep writable.plain_key (read_key writable)
      (new_style_plain o w up_to at.place.pair.after writable.plain_separator at.section whole are)
      (source_for first) at.section at.place.pair at.pair.whole are)

-- the same of the code's own pieces
pub inserted_view : {t v : Pieces} → t ≡ v → (w : WriteOption) {key value source : Text} {style : Style}
    {found : Option PairPlace} {i j : ℕ} (at : IsPairAt found v.sections i j) (sep : LineSeparator)
    (pair : NewPair)
    {here new : SectionPiece}
    → style ≡ style_at v.option w v.sections i (j + 1) → line_end sep ≡ new_line_end w v.sections
    → IsNewPair w.escape_policy style key value source pair
    → IsWritableNew t.option w key value
    → IsFirstReadAs t.option value (value_forms w.escape_policy [] value) source
    → here ≡ get_or t.sections i here
    → ((p : Place PairPiece) → IsPlaceAt here.pairs p j
    → new ≡ pair_put_after t.option (line_end sep) (made_pair t.option pair) here p)
    → (set t.sections i new ≡ inserted_after v.option w key value source v.sections at.place)
    × (AreSections t.option t.sections → AreSections t.option (set t.sections i new))
inserted_view {t} {v} same w {key} {value} {source} {style} {i = i} {j} at sep pair {here} {new} styled
    end is =
    subst (λ t. IsWritableNew t.option w key value
    → IsFirstReadAs t.option value (value_forms w.escape_policy [] value) source
    → here ≡ get_or t.sections i here
    → ((p : Place PairPiece) → IsPlaceAt here.pairs p j
    → new ≡ pair_put_after t.option (line_end sep) (made_pair t.option pair) here p)
    → (set t.sections i new ≡ inserted_after v.option w key value source v.sections at.place)
    × (AreSections t.option t.sections → AreSections t.option (set t.sections i new))) (sym same)
    (λ writable first read put.
    let now = inserted_is v.option w v.sections writable first at sep styled (is v.option) end
    (place_read at.section read) put in (
      now,
      λ are. subst (AreSections v.option) (sym now)
          (inserted_stands v.option w v.sections writable first at sep end are),
    ))
