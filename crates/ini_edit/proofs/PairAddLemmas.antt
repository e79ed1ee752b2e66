-- A new pair added to a section that is there: the sections stand, and the document has it.
use Rattle.std.proofs.Common.{◌≡◌, ◌∙◌, ℕ, Bool, List, [], ◌∷◌, ◌++◌, None, Option, Some, ap, append-nil}
use Rattle.std.proofs.Common.{append_assoc, map, refl, subst, sym}
use Rattle.std.proofs.lemmas.Bool.{cond_both}
use Rattle.std.proofs.lemmas.List.{map-append}
use Rattle.std.specs.Option.{option_map}
use Rattle.std.specs.Prelude.{is_none}
use Rattle.ini_text.specs.Options.WriteOptions.{line_end}
use Rattle.ini_text.specs.declared.option.ParseOption.{ParseOption}
use Rattle.ini_text.specs.declared.write.option.LineSeparator.{LineSeparator}
use Rattle.ini_text.specs.declared.write.option.LineSeparator.TheVariants.{SystemDefault, CR, CRLF}
use Rattle.ini_text.specs.declared.write.option.WriteOption.{WriteOption}
use Rattle.ini.specs.Edits.{add_in}
use Rattle.ini.specs.Texts.{Text, is_name}
use Rattle.ini_edit.specs.Inside.SourceEnds.{IsPlaceAt}
use Rattle.ini_edit.specs.Inside.Spans.{AreSections}
use Rattle.ini_edit.specs.SourceEditsAdd.{GapPlace, closed, first_place, made_after, pair_put_after}
use Rattle.ini_edit.specs.SourceEditsAdd.{pair_put_first, pair_put_last, with_line_ended}
use Rattle.ini_edit.specs.SourceEditsDelete.{would_be_taken}
use Rattle.ini_edit.specs.SourceEditsAdded.{made, style_after}
use Rattle.ini_edit.specs.SourcePlaces.{Place, exchanged, is_nil, last_place, section_place}
use Rattle.ini_edit.specs.SourceWritten.{IsFirstReadAs, IsWritableNew, value_forms}
use Rattle.ini_edit.specs.Sources.{PairPiece, SectionPiece, given_pair, given_section, is_multiline}
use Rattle.ini_edit.proofs.ClosedPairLemmas.{closed_same}
use Rattle.ini_edit.proofs.DeletedSourceLemmas.{nth_is}
use Rattle.ini_edit.proofs.InsertedPairLemmas.{last_at}
use Rattle.ini_edit.proofs.SetDocumentLemmas.{edit_at}
use Rattle.ini_edit.proofs.MakerLemmas.{MakesReadPairs, new_pairs_read}
use Rattle.ini_edit.proofs.NewPairLemmas.{read_key}
use Rattle.ini_edit.proofs.NewStyleLemmas.{new_style_plain, source_for}
use Rattle.ini_edit.proofs.PairPutLemmas.{put_after_any}
use Rattle.ini_edit.proofs.SourceAddLemmas.{feed_end, return_end}
use Rattle.ini_edit.proofs.PutFirstSectionLemmas.{put_last_sections}

last_after : {A : Type 0} (x : A) (xs : List A) → (last_place x xs).after ≡ []
last_after x [] = refl
last_after x (y ∷ ys) = last_after y ys

ended_gives : (o : ParseOption) (end : Text) (p : PairPiece)
    → given_pair (with_line_ended o end p) ≡ given_pair p
ended_gives o end p =
    cond_both (is_multiline o p) _ _ (λ q. given_pair q ≡ given_pair p) (λ _. same) (λ _. same)
  where
    same : given_pair (closed o p) ≡ given_pair p
    same = ap (λ k. (k, (closed o p).value)) (closed_same o p).0 ∙ ap (λ v. (p.key, v)) (closed_same o p).1

module _ (o : ParseOption) (w : WriteOption) (ss : List SectionPiece) {key value source : Text}
    (writable : IsWritableNew o w key value)
    (first : IsFirstReadAs o value (value_forms w.escape_policy [] value) source)
    {s : Place SectionPiece} {i : ℕ} (at : IsPlaceAt ss s i) where
  abbrev maker_there : (indented : Bool) → (lines rest : Text) → PairPiece
  maker_there = made o w key value source (style_after o w ss s s.here.pairs)

  -- the sections stand
  stands_first : (sep : LineSeparator) (new : SectionPiece) → s.here.pairs ≡ []
      → pair_put_last o (line_end sep) maker_there (is_nil s.after) s.here [] ≡ Some new → AreSections o ss
      → AreSections o (exchanged s (new ∷ []))
  stands_first sep new none put are = by sep put
    where
      makes : MakesReadPairs o maker_there
      makes = new_pairs_read writable.plain_key (read_key writable)
          (new_style_plain o w s.here.pairs [] writable.plain_separator at (sym (append-nil
          s.here.pairs)) are)
          (source_for first)

      by : (sep : LineSeparator)
          → pair_put_last o (line_end sep) maker_there (is_nil s.after) s.here [] ≡ Some new
          → AreSections o (exchanged s (new ∷ []))
      by SystemDefault put = put_last_sections o at none are feed_end maker_there makes new put
      by CR put = put_last_sections o at none are feed_end maker_there makes new put
      by CRLF put = put_last_sections o at none are return_end maker_there makes new put

  pub added_stands : (sep : LineSeparator) (new : SectionPiece) (pairs : List PairPiece)
      → s.here.pairs ≡ pairs
      → pair_put_last o (line_end sep) maker_there (is_nil s.after) s.here pairs ≡ Some new →
      AreSections o ss
      → AreSections o (exchanged s (new ∷ []))
  added_stands sep new [] is put are = stands_first sep new is put are
  added_stands sep new (p ∷ ps) is put are =
      let whole = is ∙ (last_at p ps).whole in
      subst (λ l. AreSections o (exchanged s l))
      (let same : pair_put_after o (line_end sep) maker_there s.here (last_place p ps) ≡ new = cc in
      ap (λ t. t ∷ []) same)
      (put_after_any o sep writable.plain_key (read_key writable)
      (new_style_plain o w s.here.pairs [] writable.plain_separator at (sym (append-nil s.here.pairs)) are)
      (source_for first) at (last_place p ps) whole are)

  -- and give the pair last
  pub gives_last : (end : Text) (is_last : Bool) (new : SectionPiece) (pairs : List PairPiece)
      → s.here.pairs ≡ pairs
      → pair_put_last o end maker_there is_last s.here pairs ≡ Some new
      → given_section new ≡ (s.here.name, map given_pair s.here.pairs ++ (key, value) ∷ [])
  gives_last end is_last new [] is put = by (first_place o (is_none s.here.name) is_last s.here.after) put
    where
      by : (q : Option GapPlace) → option_map (pair_put_first o end maker_there s.here) q ≡ Some new
          → given_section new ≡ (s.here.name, map given_pair s.here.pairs ++ (key, value) ∷ [])
      by None no_place = absurd (let no : ◌≡◌ {A = Option SectionPiece} None (Some new) = no_place in cc)
      by (Some q) placed =
          let same : pair_put_first o end maker_there s.here q ≡ new = cc in
          sym (ap given_section same)
          ∙ ap (λ l. (s.here.name, map given_pair l ++ (key, value) ∷ [])) (sym is)
  gives_last end is_last new (p ∷ ps) is put =
      let l = last_place p ps in
      let same : pair_put_after o end maker_there s.here l ≡ new = cc in
      let ended = with_line_ended o end l.here in
      let added = made_after o end maker_there l.here l.after in
      let gives : given_pair added ≡ (key, value) =
      cond_both (would_be_taken o l.here l.after) _ _ (λ q. given_pair q ≡ (key, value)) (λ _. refl)
      (λ _. refl) in
      let whole : s.here.pairs ≡ l.before ++ l.here ∷ [] =
      is ∙ (last_at p ps).whole ∙ ap (λ z. l.before ++ l.here ∷ z) (last_after p ps) in
      let given : map given_pair (l.before ++ (ended ∷ added ∷ l.after))
      ≡ map given_pair s.here.pairs ++ (key, value) ∷ [] =
      map-append given_pair l.before (ended ∷ added ∷ l.after)
      ∙ ap (λ z. map given_pair l.before ++ (given_pair ended ∷ z ∷ map given_pair l.after)) gives
      ∙ ap (λ z. map given_pair l.before ++ (z ∷ (key, value) ∷ map given_pair l.after)) (ended_gives o
      end l.here)
      ∙ ap (λ z. map given_pair l.before ++ (given_pair l.here ∷ (key, value) ∷ map given_pair z))
      (last_after p ps)
      ∙ sym (append_assoc (map given_pair l.before) (given_pair l.here ∷ []) ((key, value) ∷ []))
      ∙ ap (λ z. z ++ (key, value) ∷ []) (sym (ap (map given_pair) whole ∙ map-append given_pair
      l.before (l.here ∷ []))) in
      sym (ap given_section same) ∙ ap (λ g. (s.here.name, g)) given

  -- and so the document has it
  pub added_document : (end : Text) (is_last : Bool) (new : SectionPiece) (name : Option Text)
      → section_place name ss ≡ Some s
      → pair_put_last o end maker_there is_last s.here s.here.pairs ≡ Some new
      → map given_section (exchanged s (new ∷ [])) ≡ add_in name key value (map given_section ss)
  added_document end is_last new name found put =
      map-append given_section s.before (new ∷ s.after)
      ∙ ap (λ g. map given_section s.before ++ (g ∷ map given_section s.after))
      (gives_last end is_last new s.here.pairs refl put)
      ∙ sym (edit_at name (λ pairs. pairs ++ (key, value) ∷ []) ((name, (key, value) ∷ []) ∷ [])
      (nth_is (λ s. is_name name s.name) ss 0 s found))
