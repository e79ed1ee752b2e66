-- How a walk over the elements of a text in pieces goes on.
use Rattle.std.specs.Prelude.{◌≡◌, ℕ, ◌+◌, if◌then◌else◌, MatchOption, List, [], ◌∷◌, ◌++◌, Option, None}
use Rattle.std.specs.Prelude.{Some}
use Rattle.std.specs.Borrow.{Bor}
use Rattle.std.specs.Slice.Iter.{iter_rest}
use Rattle.std.specs.declared.slice.Iter.{Iter}
use Rattle.ini_text.specs.Grammar.CharacterKinds.{is_line_feed}
use Rattle.ini.specs.Texts.{Text, str_name, str_text}
use Rattle.ini_edit.specs.SourceElements.{ContentPiece, ElementPiece, content_text, counted, shown_content}
use Rattle.ini_edit.specs.SourceElements.{named_contents, pair_contents, sections_contents}
use Rattle.ini_edit.specs.Sources.{PairPiece}
use Rattle.ini_edit.specs.declared.source.elements.ElementWalk.{ElementWalk}
use Rattle.ini_edit.specs.declared.source.elements.Position.{Position}
use Rattle.ini_edit.specs.declared.source.elements.SourceContent.{SourceContent}

-- the position after one character more, and after a text
abbrev pub passed_character : Position → ℕ → Position
passed_character p c =
    if is_line_feed c then record { line = counted (p.line + 1); column = 1 }
    else record { line = p.line; column = counted (p.column + 1) }

abbrev pub passed : Position → Text → Position
passed p [] = p
passed p (c ∷ cs) = passed (passed_character p c) cs

-- contents of which the first stands at this position
abbrev pub placed_from : Position → List (Option Text × ContentPiece) → List ElementPiece
placed_from p [] = []
placed_from p (c ∷ cs) =
    record { section = c.0; content = c.1; position = p } ∷ placed_from (passed p (content_text c.1)) cs

-- what a walk has left: what stands before the next pair or header, pairs, and sections
abbrev pub between_left : Option (Bor (List ℕ)) → List ContentPiece
between_left None = []
between_left (Some text) = ContentPiece.between (str_text text) ∷ []

abbrev pub pairs_left : Option (Iter PairPiece) → List PairPiece
pairs_left None = []
pairs_left (Some pairs) = iter_rest pairs

abbrev pub contents_left : ElementWalk → List (Option Text × ContentPiece)
contents_left w =
    named_contents (str_name w.section) (between_left w.between ++ pair_contents (pairs_left w.pairs))
    ++ sections_contents (iter_rest w.sections)

abbrev pub elements_left : ElementWalk → List ElementPiece
elements_left w = placed_from w.position (contents_left w)

-- a content is taken off what a walk has left; its section is that of the walk, whose position stays
abbrev pub GoesOn : ElementWalk → Option SourceContent → ElementWalk → Type 0
GoesOn old found new =
    (new.position ≡ old.position)
    × MatchOption found ((contents_left old ≡ []) × (contents_left new ≡ []))
    (λ c. contents_left old ≡ (str_name new.section, shown_content c) ∷ contents_left new)

-- the first of the pairs that are left is taken, and all else stays
abbrev pub GoesOverPair : ElementWalk → Option (Bor PairPiece) → ElementWalk → Type 0
GoesOverPair old found new =
    (new ≡ record old { pairs = new.pairs })
    × MatchOption found ((pairs_left old.pairs ≡ []) × (pairs_left new.pairs ≡ []))
    (λ p. pairs_left old.pairs ≡ p.now ∷ pairs_left new.pairs)
