-- Comments above the pair that counts under a rule.
use Rattle.std.specs.Prelude.{◌≡◌, Bool, true, false, Option, None, Some}
use Rattle.ini_text.specs.declared.write.option.WriteOption.{WriteOption}
use Rattle.ini.specs.Texts.{Text}
use Rattle.ini_edit.specs.SourceEditsAt.{IsCommentedAtIndex, RefusesCommentAtIndex, indexed_pair}
use Rattle.ini_edit.specs.SourceEditsComments.{comments_above}
use Rattle.ini_edit.specs.SourcePlaces.{PairPlace}
use Rattle.ini_edit.specs.Sources.{Pieces, document_in}
use Rattle.ini_edit.specs.declared.error.EditError.{EditError}
use Rattle.ini_dialect.specs.Lookups.{value_under}
use Rattle.ini_dialect.specs.SourceLookups.{IsCountingPair}
use Rattle.ini_dialect.specs.declared.rule.Lookup.{Lookup}
use Rattle.ini_dialect.specs.declared.source.PairNumber.{PairNumber}

module _ (rule : Lookup) (name : Option Text) (key : Text) where
  -- these comment lines stand directly above the pair that counts
  pub record StandsAbove (p : Pieces) (above : Text) : Type 0 where
    pub at : PairNumber
    pub counts : IsCountingPair rule name key (document_in p) at
    pub place : PairPlace
    pub is_there : indexed_pair at.section at.pair p.sections ≡ Some place
    pub is : above ≡ comments_above place

  -- the comment stands there now
  pub record IsCommentedUnder (w : WriteOption) (old new : Pieces) (comment : Text) : Type 0 where
    pub at : PairNumber
    pub counts : IsCountingPair rule name key (document_in old) at
    pub commented : IsCommentedAtIndex old.option w old new at.section at.pair comment

  -- it does, or there is no such pair, and all stays
  abbrev pub SetsCommentUnder : WriteOption → Pieces → Pieces → Text → Bool → Type 0
  SetsCommentUnder w old new comment true = IsCommentedUnder w old new comment
  SetsCommentUnder w old new comment false =
      (new ≡ old) × (value_under rule name key (document_in old) ≡ None)

  -- that is refused as above the pair at these numbers
  pub data RefusesCommentUnder (w : WriteOption) (p : Pieces) (comment : Text) : EditError → Type 0 where
    above_it : {at : PairNumber} {e : EditError} → IsCountingPair rule name key (document_in p) at
        → RefusesCommentAtIndex p.option w p.sections at.section at.pair comment e
        → RefusesCommentUnder w p comment e
