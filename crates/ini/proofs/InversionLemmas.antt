-- The laws of documents: what is written for a plain one, with a text after it, and one text for two plain
-- ones.
use Rattle.std.proofs.Common.{◌≡◌, ◌∙◌, zero, suc, ◌+◌, true, [], ◌∷◌, ◌++◌, drop, All, ap, sym, subst, refl}
use Rattle.std.proofs.Common.{Option, None, Some, append-nil, count_by, inl, inr, arith}
use Rattle.std.specs.Str.{all_scalars}
use Rattle.ini_text.specs.Grammar.CharacterKinds.{is_line_feed}
use Rattle.ini_text.specs.Laws.Readings as text_outcome
use Rattle.ini_text.specs.Grammar.Positions.{column_of, line_of}
use Rattle.ini_text.specs.Laws.Plain.{IsPlainPair}
use Rattle.ini_text.specs.Laws.PlainLaws.{IsEmptyOrHeader, IsMoved}
use Rattle.ini_text.specs.Grammar.Positions.{is_column_one}
use Rattle.ini_text.specs.Grammar.Texts.{Reads}
use Rattle.ini_text.specs.declared.option.ParseOption.{ParseOption}
use Rattle.ini_text.specs.declared.write.option.WriteOption.{WriteOption}
use Rattle.ini_text.proofs.LawLemmas.ExportedLemmas as text_laws
use Rattle.ini.specs.Texts.{Text}
use Rattle.ini.specs.Properties.{Pairs}
use Rattle.ini.specs.Documents.{Document, document_of}
use Rattle.ini.specs.Loading.{IsDocumentOf}
use Rattle.ini.specs.Outcomes.{HasOneOutcome, HasOutcome, Inverts, Outcome, loaded, refused}
use Rattle.ini.specs.Plain.{IsPlain}
use Rattle.ini.specs.SectionItems.{items_of, pair_items}
use Rattle.ini.specs.Written.{has_pairs, written, written_pairs, written_sections}
use Rattle.ini.proofs.EachLemmas.{Each, each_of}
use Rattle.ini.proofs.PlainTextLemmas.{GivesBefore, HasNames, IsGood, general_gives, items_make, more_make}
use Rattle.ini.proofs.PlainTextLemmas.{pairs-scalars, sections-scalars, sections_give}

module _ (o : ParseOption) (w : WriteOption) {d : Document} (plain : IsPlain d w o) where
  abbrev whole : Document
  whole = (None, plain.general) ∷ plain.named

  -- the general section and the others
  abbrev PlainPairs : Option Text × Pairs → Type 0
  PlainPairs s = All (λ p. IsPlainPair o w.escape_policy p.0 p.1) s.1

  pairs : All PlainPairs whole
  pairs = subst (λ x. All PlainPairs x) plain.sections plain.pairs

  named_good : Each (IsGood o w plain.separator) plain.named
  named_good =
      each_of (IsGood o w plain.separator) plain.named
      (λ k s l. record { name = plain.names k s l; pairs = each_of _ _ (pairs (suc k) s (omega arith)) })

  has_names : (n : Document) → Each (IsGood o w plain.separator) n → HasNames n
  has_names [] good = tt
  has_names ((None, ps) ∷ n) (Each.more g good) = g.name
  has_names ((Some name, ps) ∷ n) (Each.more g good) = has_names n good

  names : HasNames plain.named
  names = has_names plain.named named_good

  written_gives : GivesBefore o w IsEmptyOrHeader (written whole w) (items_of whole)
  written_gives =
      sections_give o w plain.separator (has_pairs plain.general) (written_pairs w plain.general)
      (pair_items plain.general) plain.named
      (λ twice only. general_gives o w plain.separator twice plain.general only
      (each_of _ plain.general (pairs zero (None, plain.general) (omega arith)))) named_good

  -- after the document's text
  module _ (Y : Text) (begins : IsEmptyOrHeader Y) where
    own : Reads o (written whole w ++ Y) [] (items_of whole) (written whole w)
        × (is_column_one (written whole w) ≡ true)
    own = written_gives [] Y refl begins

    is_moved : IsMoved o (written whole w) Y (items_of whole)
    is_moved = text_laws.moved o (written whole w) Y (items_of whole) own.1 own.0

    inverts_whole : Inverts o w whole Y
    inverts_whole (loaded e) h = record {
      items = items_of whole ++ h.items;
      derives = is_moved.derives h.derives;
      document = ap (λ x. whole ++ drop 1 x) h.document ∙ sym
          (more_make plain.general plain.named names h.items
          (text_laws.header_first o Y h.items begins h.derives));
    }
    inverts_whole (refused kind line column) h = record {
      front = written whole w ++ h.front;
      stops = is_moved.stops h.stops;
      line_is = ap (λ n. n + count_by is_line_feed (written whole w)) h.line_is ∙ sym
          (is_moved.line h.front);
      column_is = h.column_is ∙ sym (is_moved.column h.front);
    }

  pub inverts : (Y : Text) → IsEmptyOrHeader Y → Inverts o w d Y
  inverts Y begins = subst (λ e. Inverts o w e Y) (sym plain.sections) (inverts_whole Y begins)

  -- the document's text alone
  pub own_document : IsDocumentOf o (written d w) d
  own_document =
      let text : written whole w ++ [] ≡ written d w =
      append-nil (written whole w) ∙ ap (λ e. written e w) (sym plain.sections) in
      let items = items_of whole in
      let at : Reads o (written whole w ++ []) [] items (written whole w ++ []) =
      subst (Reads o (written whole w ++ []) [] items) (sym (append-nil (written whole w))) (own [] tt).0 in
      record {
        items = items;
        derives = subst (λ t. Reads o t [] items t) text at;
        document = plain.sections ∙ sym (items_make plain.general plain.named names);
      }

  pub of_characters : all_scalars (written d w) ≡ true
  of_characters =
      let following = written_sections w (has_pairs plain.general) plain.named in
      let general = each_of _ plain.general (pairs zero (None, plain.general) (omega arith)) in
      subst (λ e. all_scalars (written e w) ≡ true) (sym plain.sections)
      (text_laws.scalars-append (written_pairs w plain.general) following
      (pairs-scalars o w plain.separator plain.general general)
      (sections-scalars o w plain.separator (has_pairs plain.general) plain.named named_good))

-- a text has one outcome
pub one_outcome : (o : ParseOption) (T : Text) → HasOneOutcome o T
one_outcome o T = at (text_laws.one_outcome o T)
  where
    at : text_outcome.HasOneReading o T → HasOneOutcome o T
    at (inl (items, just)) = record {
      outcome = loaded (document_of items);
      comes = record { items = items; derives = just.derives; document = refl };
      alone = alone;
    }
      where
        alone : (x : Outcome) → HasOutcome o T x → x ≡ loaded (document_of items)
        alone (loaded d) x = ap loaded (x.document ∙ ap document_of (just.alone x.items x.derives))
        alone (refused kind line column) x = absurd (just.never_stops kind x.front x.stops)
    at (inr (kind, front, just)) = record {
      outcome = refused kind (line_of front) (column_of front);
      comes = record { front = front; stops = just.stops; line_is = refl; column_is = refl };
      alone = alone;
    }
      where
        alone : (x : Outcome) → HasOutcome o T x → x ≡ refused kind (line_of front) (column_of front)
        alone (loaded d) x = absurd (just.derives_nothing x.items x.derives)
        alone (refused other line column) x =
            let same = just.alone other x.front x.stops in
            rw (same.0, x.line_is, x.column_is, same.1) refl

pub same_text : (o : ParseOption) (w : WriteOption) (d e : Document) → IsPlain d w o → IsPlain e w o
    → written d w ≡ written e w → d ≡ e
same_text o w d e plain_d plain_e same =
    let one = one_outcome o (written e w) in
    let of_d = subst (λ t. IsDocumentOf o t d) same (own_document o w plain_d) in
    let of_e = own_document o w plain_e in
    let both : loaded d ≡ loaded e = one.alone (loaded d) of_d ∙ sym (one.alone (loaded e) of_e) in
    cc
