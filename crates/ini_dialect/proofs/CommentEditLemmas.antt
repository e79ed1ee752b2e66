-- Comments above the pair that counts.
use Rattle.std.proofs.Common.{◌≡◌, ◌∙◌, Bool, true, false, Option, None, Some, sym}
use Rattle.std.specs.Option.{option_map}
use Rattle.std.specs.Prelude.{IfNone}
use Rattle.ini.specs.Texts.{Text}
use Rattle.ini_text.specs.declared.write.option.WriteOption.{WriteOption}
use Rattle.ini_edit.specs.SourceEditsAt.{SetsCommentAtIndex, indexed_pair}
use Rattle.ini_edit.specs.SourceEditsComments.{comments_above}
use Rattle.ini_edit.specs.SourcePlaces.{PairPlace}
use Rattle.ini_edit.specs.Sources.{Pieces, document_in}
use Rattle.ini_dialect.specs.CommentEdits.{SetsCommentUnder}
use Rattle.ini_dialect.specs.SourceLookups.{IsCountingPair}
use Rattle.ini_dialect.specs.declared.rule.Lookup.{Lookup}
use Rattle.ini_dialect.specs.declared.source.PairNumber.{PairNumber}
use Rattle.ini_dialect.proofs.PutUnderLemmas.{pair_there}

module _ (rule : Lookup) (name : Option Text) (key : Text) where
  pub sets_comment : (w : WriteOption) (old new : Pieces) (comment : Text) {at : PairNumber} (found : Bool)
      → IsCountingPair rule name key (document_in old) at
      → SetsCommentAtIndex old.option w old new at.section at.pair comment found
      → SetsCommentUnder rule name key w old new comment found
  sets_comment w old new comment {at} true counts set =
      record { at = at; counts = counts; commented = set }
  sets_comment w old new comment false counts set =
      let there = pair_there rule name key old.sections counts in
      absurd (let no : ◌≡◌ {A = Option PairPlace} None (Some there.place) = sym set.1 ∙ there.is in cc)

  -- something stands above the pair that counts, as the call at its numbers answers
  pub stands_somewhere : {X : Type 0} (text : X → Text) (p : Pieces) {at : PairNumber}
      → IsCountingPair rule name key (document_in p) at → (P : Type 0) (r : Option X)
      → option_map text r ≡ option_map comments_above (indexed_pair at.section at.pair p.sections)
      → IfNone r P
  stands_somewhere text p counts P (Some x) is = tt
  stands_somewhere text p counts P None is =
      let there = pair_there rule name key p.sections counts in
      absurd (let no : ◌≡◌ {A = Option Text} None (Some (comments_above there.place)) =
      rw there.is at is in cc)
