-- Edits of a text in pieces at an index: at that of a section, and at that of a pair in it; comments above a
-- pair are among them.
use Rattle.std.specs.Prelude.{◌≡◌, Bool, true, false, ℕ, zero, suc, List, [], ◌∷◌, ◌++◌, Option, None, Some}
use Rattle.std.specs.Prelude.{alloc_error}
use Rattle.std.specs.List.{remove}
use Rattle.std.specs.Option.{option_and_then, option_map}
use Rattle.ini_text.specs.Escaping.EscapedTexts.{escaped}
use Rattle.ini_text.specs.declared.error.Error.TheVariants.{Memory}
use Rattle.ini.specs.Documents.{Document}
use Rattle.ini.specs.Properties.{Pairs}
use Rattle.ini.specs.Texts.{Text}
use Rattle.ini_text.specs.declared.option.ParseOption.{ParseOption}
use Rattle.ini_text.specs.declared.write.option.WriteOption.{WriteOption}
use Rattle.ini_text.specs.declared.write.policy.EscapePolicy.{EscapePolicy}
use Rattle.ini_edit.specs.Renamed.{HasEdges}
use Rattle.ini_edit.specs.SourceEdits.{with_key}
use Rattle.ini_edit.specs.SourceEditsAdded.{added_at, new_line_end}
use Rattle.ini_edit.specs.SourceEditsComments.{IsCommentText, comment_put, in_section, pair_commented_out}
use Rattle.ini_edit.specs.SourceEditsDelete.{deleted_at}
use Rattle.ini_edit.specs.SourceEditsSet.{pair_changed_at, with_value_before}
use Rattle.ini_edit.specs.SourcePlaces.{PairPlace, Place, edited_at, one_on}
use Rattle.ini_edit.specs.SourceWritten.{IsFirstReadAs, IsWritableNew, IsWrittenInPlace, RefusesNew}
use Rattle.ini_edit.specs.SourceWritten.{value_forms}
use Rattle.ini_edit.specs.Sources.{Pieces, SectionPiece, document_in}
use Rattle.ini_edit.specs.declared.error.EditError.{EditError}
use Rattle.ini_edit.specs.declared.error.EditError.TheVariants.{NoPlace, Text as TextError, Value}

-- the place at an index, from 0, of a list
abbrev pub indexed_place : {A : Type 0} → ℕ → List A → Option (Place A)
indexed_place i [] = None
indexed_place zero (x ∷ xs) = Some (record { before = []; here = x; after = xs })
indexed_place (suc i) (x ∷ xs) = option_map (one_on x) (indexed_place i xs)

-- of the pair at the second index in the section at the first
abbrev pub indexed_pair : (section pair : ℕ) → List SectionPiece → Option PairPlace
indexed_pair i j ss =
    option_and_then (λ s. option_map (λ p. record { section = s; pair = p }) (indexed_place j s.here.pairs))
    (indexed_place i ss)

-- f at the item of this index
abbrev pub at_index : {X : Type 0} → ℕ → (X → X) → List X → List X
at_index i f [] = []
at_index zero f (x ∷ xs) = f x ∷ xs
at_index (suc i) f (x ∷ xs) = x ∷ at_index i f xs

-- f at the pairs of the section of this index
abbrev pub at_section : ℕ → (Pairs → Pairs) → Document → Document
at_section i f d = at_index i (λ s. (s.0, f s.1)) d

-- The pair at the indices has the value, in its place.
pub record IsSetAtIndex (o : ParseOption) (policy : EscapePolicy) (old new : Pieces) (section pair : ℕ)
    (value : Text) : Type 0 where
  pub place : PairPlace
  pub was : indexed_pair section pair old.sections ≡ Some place
  pub source : Text
  pub is_written : IsWrittenInPlace o policy place.pair.here.stretches.raw_value
      place.pair.here.stretches.note place.pair.here.value value source
  pub option : new.option ≡ old.option
  pub sections : new.sections ≡ pair_changed_at (with_value_before o source value place.pair.after) place
  pub document : document_in new
      ≡ at_section section (at_index pair (λ p. (p.0, value))) (document_in old)

-- it has, or there is no such pair, and all stays
abbrev pub SetsAtIndex : ParseOption → EscapePolicy → Pieces → Pieces → (section pair : ℕ) → Text → Bool
    → Type 0
SetsAtIndex o policy old new section pair value true = IsSetAtIndex o policy old new section pair value
SetsAtIndex o policy old new section pair value false =
    (new ≡ old) × (indexed_pair section pair old.sections ≡ None)

-- The pair at the indices has another key, which is written by the policy between the white space that stood
-- around the old one.
pub record IsKeyRenamedAtIndex (o : ParseOption) (policy : EscapePolicy) (old new : Pieces)
    (section pair : ℕ) (other : Text) : Type 0 where
  pub place : PairPlace
  pub was : indexed_pair section pair old.sections ≡ Some place
  pub indent : Text
  pub pad : Text
  pub edges : HasEdges o place.pair.here.stretches.key indent pad
  pub option : new.option ≡ old.option
  pub sections : new.sections
      ≡ pair_changed_at (with_key (indent ++ (escaped policy other ++ pad)) other) place
  pub document : document_in new
      ≡ at_section section (at_index pair (λ p. (other, p.1))) (document_in old)

-- it has, or there is no such pair, and all stays
abbrev pub RenamesAtIndex : ParseOption → EscapePolicy → Pieces → Pieces → (section pair : ℕ) → Text → Bool
    → Type 0
RenamesAtIndex o policy old new section pair other true =
    IsKeyRenamedAtIndex o policy old new section pair other
RenamesAtIndex o policy old new section pair other false =
    (new ≡ old) × (indexed_pair section pair old.sections ≡ None)

-- the pair at the indices is a comment
pub record IsCommentedOutAtIndex (o : ParseOption) (old new : Pieces) (section pair : ℕ) : Type 0 where
  pub place : PairPlace
  pub was : indexed_pair section pair old.sections ≡ Some place
  pub option : new.option ≡ old.option
  pub sections : in_section (pair_commented_out o) place ≡ Some new.sections
  pub document : document_in new ≡ at_section section (λ pairs. remove pairs pair) (document_in old)

-- it is, or there is no such pair, and all stays
abbrev pub CommentsOutAtIndex : ParseOption → Pieces → Pieces → (section pair : ℕ) → Bool → Type 0
CommentsOutAtIndex o old new section pair true = IsCommentedOutAtIndex o old new section pair
CommentsOutAtIndex o old new section pair false =
    (new ≡ old) × (indexed_pair section pair old.sections ≡ None)

-- it is refused where no comment may stand, or for memory
pub data RefusesToCommentOutAtIndex (o : ParseOption) (ss : List SectionPiece) (section pair : ℕ)
    : EditError → Type 0 where
  no_place_at : {place : PairPlace} → indexed_pair section pair ss ≡ Some place
      → in_section (pair_commented_out o) place ≡ None → RefusesToCommentOutAtIndex o ss section pair NoPlace
  no_memory_at : RefusesToCommentOutAtIndex o ss section pair (TextError (Memory alloc_error))

-- the pair at the indices taken out
abbrev pub deleted_at_index : ParseOption → (section pair : ℕ) → List SectionPiece → List SectionPiece
deleted_at_index o section pair ss = edited_at (deleted_at o) (indexed_pair section pair ss) ss

module _ (o : ParseOption) (w : WriteOption) where
  -- the comment stands directly above the pair at the indices
  pub record IsCommentedAtIndex (old new : Pieces) (section pair : ℕ) (comment : Text) : Type 0 where
    pub is_comment : IsCommentText comment
    pub place : PairPlace
    pub was : indexed_pair section pair old.sections ≡ Some place
    pub option : new.option ≡ old.option
    pub sections : in_section (comment_put o (new_line_end w old.sections) comment) place ≡ Some new.sections
    pub document : document_in new ≡ document_in old

  -- it does, or there is no such pair, and all stays
  abbrev pub SetsCommentAtIndex : Pieces → Pieces → (section pair : ℕ) → Text → Bool → Type 0
  SetsCommentAtIndex old new section pair comment true = IsCommentedAtIndex old new section pair comment
  SetsCommentAtIndex old new section pair comment false =
      (new ≡ old) × (indexed_pair section pair old.sections ≡ None)

  -- it is refused where it isn't one, where without it the pair would go on with a value, or for memory
  pub data RefusesCommentAtIndex (ss : List SectionPiece) (section pair : ℕ) (comment : Text) : EditError
      → Type 0 where
    no_comment_at : ¬ IsCommentText comment → RefusesCommentAtIndex ss section pair comment Value
    no_place_bare_at : {place : PairPlace} → IsCommentText comment
        → indexed_pair section pair ss ≡ Some place
        → in_section (comment_put o (new_line_end w ss) comment) place ≡ None
        → RefusesCommentAtIndex ss section pair comment NoPlace
    no_memory_above : IsCommentText comment
        → RefusesCommentAtIndex ss section pair comment (TextError (Memory alloc_error))

  -- The pair is added to the section at the index, in the first form of its value that is read back.
  pub record IsAddedAtIndex (old new : Pieces) (section : ℕ) (key value : Text) : Type 0 where
    pub writable : IsWritableNew o w key value
    pub source : Text
    pub is_first : IsFirstReadAs o value (value_forms w.escape_policy [] value) source
    pub place : Place SectionPiece
    pub was : indexed_place section old.sections ≡ Some place
    pub option : new.option ≡ old.option
    pub sections : added_at o w key value source old.sections place ≡ Some new.sections
    pub document : document_in new
        ≡ at_section section (λ pairs. pairs ++ (key, value) ∷ []) (document_in old)

  -- it is, or there is no such section, and all stays
  abbrev pub AddsAtIndex : Pieces → Pieces → ℕ → (key value : Text) → Bool → Type 0
  AddsAtIndex old new section key value true = IsAddedAtIndex old new section key value
  AddsAtIndex old new section key value false =
      (new ≡ old) × (indexed_place section old.sections ≡ None)

  -- adding it is refused for its words, or since there is no place
  pub data RefusesAtIndex (ss : List SectionPiece) (section : ℕ) (key value : Text) : EditError
      → Type 0 where
    unwritable_there : {e : EditError} → RefusesNew o w key value e
        → RefusesAtIndex ss section key value e
    no_place_there : {source : Text} {place : Place SectionPiece} → IsWritableNew o w key value
        → IsFirstReadAs o value (value_forms w.escape_policy [] value) source
        → indexed_place section ss ≡ Some place → added_at o w key value source ss place ≡ None
        → RefusesAtIndex ss section key value NoPlace
