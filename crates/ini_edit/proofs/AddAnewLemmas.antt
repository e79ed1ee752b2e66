-- A new pair added to a text in pieces, in a new section.
use Rattle.std.proofs.Common.{◌≡◌, ◌∙◌, ℕ, Bool, true, List, [], ◌∷◌, ◌++◌, None, Option, Some, ap, length}
use Rattle.std.proofs.Common.{map, refl, subst, sym}
use Rattle.std.specs.Option.{option_map}
use Rattle.std.specs.Prelude.{IsSomeAnd}
use Rattle.ini_text.specs.Laws.Plain.{IsPlainName}
use Rattle.ini_text.specs.declared.option.ParseOption.{ParseOption}
use Rattle.ini_text.specs.declared.write.option.WriteOption.{WriteOption}
use Rattle.ini_text.specs.declared.write.policy.EscapePolicy.{EscapePolicy}
use Rattle.ini.specs.Texts.{Text, is_name}
use Rattle.ini_edit.specs.Inside.SourceEnds.{IsNewPair, IsSectionPut, MakesPairs, RefusesSection, made_pair}
use Rattle.ini_edit.specs.Inside.SourceEnds.{style_at}
use Rattle.ini_edit.specs.Inside.Spans.{AreSections}
use Rattle.ini_edit.specs.Sections.{header_of}
use Rattle.ini_edit.specs.SourceEditsAdd.{Maker}
use Rattle.ini_edit.specs.SourceEditsAdded.{IsAddedIn, RefusesAdding, added, added_at, added_new, made}
use Rattle.ini_edit.specs.SourceEditsAdded.{new_line_end}
use Rattle.ini_edit.specs.SourceEditsSections.{after_new_section, ended_for_section, section_put}
use Rattle.ini_edit.specs.SourcePlaces.{Place, edited_at, last_before_gap, last_before_section, last_gap}
use Rattle.ini_edit.specs.SourcePlaces.{last_place, section_place}
use Rattle.ini_edit.specs.SourceWritten.{IsFirstReadAs, IsWritableNew, Style, new_pair, new_style}
use Rattle.ini_edit.specs.SourceWritten.{value_forms}
use Rattle.ini_edit.specs.Sources.{Pieces, SectionPiece, given_section}
use Rattle.ini_edit.specs.declared.error.EditError.{EditError}
use Rattle.ini_edit.specs.declared.source.written.NewPair.{NewPair}
use Rattle.ini_edit.proofs.DeletedSourceLemmas.{nth_none}
use Rattle.ini_edit.proofs.MadePairLemmas.{new_pair_makes}
use Rattle.ini_edit.proofs.NewPairLemmas.{IsPlainStyle, read_key}
use Rattle.ini_edit.proofs.NewStyleLemmas.{new_style_anew, source_for, style_anew}
use Rattle.ini_edit.proofs.SectionAddedListLemmas.{document_put}
use Rattle.ini_edit.proofs.SetDocumentLemmas.{edit_nowhere}

-- pairs that are made alike are put alike in a new section
same_put : (o : ParseOption) (policy : EscapePolicy) (end name : Text) {make other : Maker}
    (ss : List SectionPiece)
    → ((indented : Bool) (lines rest : Text) → make indented lines rest ≡ other indented lines rest)
    → section_put o policy end name (Some make) ss ≡ section_put o policy end name (Some other) ss
same_put o policy end name [] same = refl
same_put o policy end name {make} {other} (s ∷ ss) same =
    by (after_new_section o true (last_before_gap (last_before_section p) p.here p.here.pairs)
    (last_gap p.here))
  where
    p : Place SectionPiece
    p = last_place s ss

    with_new : Maker → Text → List SectionPiece
    with_new make g = p.before ++ (ended_for_section o end p.here g ∷ record {
      name = Some name;
      header = header_of policy name;
      after = end;
      pairs = make true end g ∷ [];
    } ∷ [])

    by : (r : Option Text) → option_map (with_new make) r ≡ option_map (with_new other) r
    by None = refl
    by (Some g) =
        ap (λ n. Some (p.before ++ (ended_for_section o end p.here g ∷ record {
          name = Some name;
          header = header_of policy name;
          after = end;
          pairs = n ∷ [];
        } ∷ []))) (same true end g)

-- what the code makes of its own pieces t, which are v
module _ {t v : Pieces} (same : t ≡ v) (w : WriteOption) {key value source : Text} {style : Style} {count : ℕ}
    (j : ℕ) (pair : NewPair) (styled : style ≡ style_at v.option w v.sections count j)
    (counts : count ≡ length t.sections) (is : IsNewPair w.escape_policy style key value source pair)
    (writable : IsWritableNew t.option w key value)
    (first : IsFirstReadAs t.option value (value_forms w.escape_policy [] value) source) where
  style_there : style ≡ new_style v.option w [] [] v.sections
  style_there =
      styled
      ∙ ap (λ n. style_at v.option w v.sections n j) (counts ∙ ap (λ t. length t.sections) same)
      ∙ style_anew v.option w v.sections j

  writable_there : IsWritableNew v.option w key value
  writable_there = subst (λ t. IsWritableNew t.option w key value) same writable

  first_there : IsFirstReadAs v.option value (value_forms w.escape_policy [] value) source
  first_there = subst (λ t. IsFirstReadAs t.option value (value_forms w.escape_policy [] value) source) same first

  -- the pair is one that a new section may take
  pub anew_makes : AreSections t.option t.sections → MakesPairs v.option (made_pair v.option pair)
  anew_makes are =
      new_pair_makes pair writable_there.plain_key (read_key writable_there)
      (subst (IsPlainStyle v.option) (sym style_there)
      (new_style_anew v.option w writable_there.plain_separator
      (subst (λ t. AreSections t.option t.sections) same are)))
      (source_for first_there) is

  abbrev maker_anew : Maker
  maker_anew = made v.option w key value source (new_style v.option w [] [] v.sections)

  made_anew : (indented : Bool) (lines rest : Text)
      → made_pair v.option pair indented lines rest ≡ maker_anew indented lines rest
  made_anew indented lines rest =
      is v.option indented lines rest
      ∙ ap (λ z. new_pair v.option w.escape_policy z indented key value source lines rest) style_there

  module _ (named : Option Text) {name end : Text} (is_name_of : named ≡ Some name)
      (none : section_place named v.sections ≡ None) (ends : end ≡ new_line_end w v.sections) where
    put_anew : {q : Option (List SectionPiece)}
        → section_put v.option w.escape_policy end name (Some (made_pair v.option pair)) v.sections ≡ q
        → section_put v.option w.escape_policy (new_line_end w v.sections) name (Some maker_anew) v.sections ≡ q
    put_anew put =
        ap (λ e. section_put v.option w.escape_policy e name (Some maker_anew) v.sections) (sym ends)
        ∙ sym (same_put v.option w.escape_policy end name v.sections made_anew)
        ∙ put

    added_anew : {q : Option (List SectionPiece)}
        → section_put v.option w.escape_policy end name (Some (made_pair v.option pair)) v.sections ≡ q
        → added v.option w key value source named v.sections ≡ q
    added_anew put =
        ap (λ f. edited_at (added_at v.option w key value source v.sections) f
        (added_new v.option w key value source named v.sections)) none
        ∙ ap (λ n. added_new v.option w key value source n v.sections) is_name_of
        ∙ put_anew put

    pub anew_put : {new : Pieces}
        → IsSectionPut (Some (made_pair v.option pair)) v.option w.escape_policy end name v new
        → IsAddedIn v.option w v new named key value
    anew_put {new} put = record {
      writable = writable_there;
      source = source;
      is_first = first_there;
      option = put.option;
      sections = added_anew put.sections;
      document = document_put v.option w.escape_policy (new_line_end w v.sections) name (Some maker_anew)
          v.sections new.sections (λ g. refl) (put_anew put.sections)
          ∙ ap (λ n. map given_section v.sections ++ (n, (key, value) ∷ []) ∷ []) (sym is_name_of)
          ∙ sym (edit_nowhere named (λ pairs. pairs ++ (key, value) ∷ []) ((named, (key, value) ∷ []) ∷ [])
          (nth_none (λ s. is_name named s.name) v.sections 0 none));
    }

    pub anew_refused : (e : EditError)
        → RefusesSection (Some (made_pair v.option pair)) v.option w.escape_policy end name v.sections e
        → RefusesAdding v.option w v.sections named key value e
    anew_refused e (RefusesSection.unplain_name unplain) =
        RefusesAdding.unplain_name writable_there (record {
          writable_section = none;
          unplain = λ plain. unplain (subst (λ n. IsSomeAnd n (IsPlainName v.option w.escape_policy)) is_name_of
              plain);
        })
    anew_refused e (RefusesSection.no_place plain nowhere) =
        RefusesAdding.no_place writable_there
        (λ lacks. lacks.unplain (subst (λ n. IsSomeAnd n (IsPlainName v.option w.escape_policy))
        (sym is_name_of) plain))
        first_there (added_anew nowhere)
    anew_refused e (RefusesSection.no_memory plain) = RefusesAdding.unwritable tt
