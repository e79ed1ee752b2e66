-- The conflicts of a merge, left in a text in pieces: ours stands where it has a value, and comments above
-- the key tell the values of both.
use Rattle.std.specs.Prelude.{◌≡◌, List, [], ◌∷◌, ◌++◌, MatchOption, Option, None, Some, alloc_error, codes}
use Rattle.std.specs.Prelude.{length}
use Rattle.ini_text.specs.Escaping.EscapedTexts.{escaped}
use Rattle.ini_text.specs.declared.error.Error.TheVariants.{Memory}
use Rattle.ini_text.specs.declared.write.option.WriteOption.{WriteOption}
use Rattle.ini_text.specs.declared.write.policy.EscapePolicy.TheVariants.{Basics}
use Rattle.ini.specs.Texts.{Text}
use Rattle.ini_edit.specs.Sources.{Pieces, document_in}
use Rattle.ini_edit.specs.declared.edit_list.RefusedEdit.{RefusedEdit}
use Rattle.ini_edit.specs.declared.error.EditError.{EditError}
use Rattle.ini_edit.specs.declared.error.EditError.TheVariants.{Text as TextError}
use Rattle.ini_dialect.specs.CommentEdits.{IsCommentedUnder, RefusesCommentUnder, StandsAbove}
use Rattle.ini_dialect.specs.Lookups.{value_under}
use Rattle.ini_dialect.specs.declared.rule.Lookup.{Lookup}
use Rattle.ini_layers.specs.Differences.{SettingChange}
use Rattle.ini_layers.specs.Merging.{SettingConflict}
use Rattle.ini_layers.specs.SourceChanges.{IsMadeBy, RefusesValueBy}
use Rattle.ini_layers.specs.declared.change.SettingValue.{SettingValue}
use Rattle.ini_layers.specs.declared.merging.Side.{Side}

-- the comment that tells a side's value on one line, with the basic escapes
abbrev pub side_comment : (side : Text) → Option Text → Text
side_comment side None = side ++ codes " has none"
side_comment side (Some value) = side ++ (codes ": " ++ escaped Basics value)

-- out of memory before any conflict is left
abbrev pub refused_before : RefusedEdit
refused_before = record { index = 0; refusal = TextError (Memory alloc_error) }

module _ (which : SettingValue) (rule : Lookup) (w : WriteOption) where
  -- ours stands where it has a value; else all stays
  abbrev pub MakesOurs : SettingChange → (old new : Pieces) → Type 0
  MakesOurs c old new = MatchOption c.new (new ≡ old) (λ value. IsMadeBy which rule w c old new)

  -- The comment stands directly above the pair of the key that counts, after those that stood there. Where
  -- there is no such pair, all stays.
  pub data IsPutAbove (name : Option Text) (key comment : Text) (old new : Pieces) : Type 0 where
    above : {stood : Text} → StandsAbove rule name key old stood
        → IsCommentedUnder rule name key w old new (stood ++ comment) → IsPutAbove name key comment old new
    nowhere : value_under rule name key (document_in old) ≡ None → new ≡ old
        → IsPutAbove name key comment old new

  pub record IsLeft (c : SettingConflict) (old new : Pieces) : Type 0 where
    pub made : Pieces
    pub half : Pieces
    pub is_made : MakesOurs c.change old made
    pub ours : IsPutAbove c.change.name c.change.key (side_comment (codes "; ours") c.change.new) made half
    pub theirs : IsPutAbove c.change.name c.change.key (side_comment (codes "; theirs") c.theirs) half new

  -- the conflicts are left one after another
  pub data AreLeft (old : Pieces) : List SettingConflict → Pieces → Type 0 where
    none : AreLeft old [] old
    then : {conflicts : List SettingConflict} {mid new : Pieces} (c : SettingConflict)
        → AreLeft old conflicts mid → IsLeft c mid new → AreLeft old (conflicts ++ c ∷ []) new

  -- what putting a comment there is refused with
  pub data RefusesAbove (name : Option Text) (key comment : Text) (p : Pieces) : EditError → Type 0 where
    at_pair : {stood : Text} {e : EditError} → StandsAbove rule name key p stood
        → RefusesCommentUnder rule name key w p (stood ++ comment) e → RefusesAbove name key comment p e
    no_memory : RefusesAbove name key comment p (TextError (Memory alloc_error))

  -- what leaving a conflict is refused with: at its value, or at one of the comments
  pub data RefusesToLeave (c : SettingConflict) (old : Pieces) : EditError → Type 0 where
    value : {e : EditError} → RefusesValueBy which rule w c.change.name c.change.key c.change.new old e
        → RefusesToLeave c old e
    ours : (made : Pieces) {e : EditError} → MakesOurs c.change old made
        → RefusesAbove c.change.name c.change.key (side_comment (codes "; ours") c.change.new) made e
        → RefusesToLeave c old e
    theirs : (made half : Pieces) {e : EditError} → MakesOurs c.change old made
        → IsPutAbove c.change.name c.change.key (side_comment (codes "; ours") c.change.new) made half
        → RefusesAbove c.change.name c.change.key (side_comment (codes "; theirs") c.theirs) half e
        → RefusesToLeave c old e

  abbrev pub RefusesFirstToLeave : List SettingConflict → Pieces → EditError → Type 0
  RefusesFirstToLeave [] p e = e ≡ TextError (Memory alloc_error)
  RefusesFirstToLeave (c ∷ conflicts) p e = RefusesToLeave c p e

  -- those before the one at the index are left, and this one is refused, or memory is
  pub record RefusesOneToLeave (old : Pieces) (conflicts : List SettingConflict) (refused : RefusedEdit)
      : Type 0 where
    pub before : List SettingConflict
    pub following : List SettingConflict
    pub mid : Pieces
    pub whole : conflicts ≡ before ++ following
    pub index : refused.index ≡ length before
    pub are_left : AreLeft old before mid
    pub is_refused : RefusesFirstToLeave following mid refused.refusal

  -- where a side is chosen, no conflict is left, and memory alone may be refused
  abbrev pub AreLeftUnless : Option Side → (old : Pieces) → List SettingConflict → (new : Pieces) → Type 0
  AreLeftUnless (Some _) old conflicts new = new ≡ old
  AreLeftUnless None old conflicts new = AreLeft old conflicts new

  abbrev pub RefusesUnless : Option Side → (old : Pieces) → List SettingConflict → RefusedEdit → Type 0
  RefusesUnless (Some _) old conflicts refused = refused ≡ refused_before
  RefusesUnless None old conflicts refused = RefusesOneToLeave old conflicts refused
