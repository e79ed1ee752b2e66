-- Comments directly above keys of a text in pieces, and pairs made comments.
use Rattle.std.specs.Prelude.{◌≡◌, Bool, true, false, not, ◌&&◌, ◌||◌, if◌then◌else◌, ℕ, List, [], ◌∷◌, ◌++◌}
use Rattle.std.specs.Prelude.{Option, None, Some, alloc_error}
use Rattle.ini_text.specs.Grammar.CharacterKinds.{carriage_return, is_line_feed, semicolon, space}
use Rattle.ini_text.specs.Grammar.Places.{Stretches, pair_source}
use Rattle.ini_text.specs.Grammar.Positions.{is_column_one, last_or}
use Rattle.ini_text.specs.Parsing.Fronts.{front_of}
use Rattle.ini_text.specs.declared.option.ParseOption.{ParseOption}
use Rattle.ini.specs.Texts.{Text, is_text}
use Rattle.ini_edit.specs.SourceEditsDelete.{gap_after, line_end_after, lines_after, own_lines, rest_put}
use Rattle.ini_edit.specs.SourceLines.{after_comments, comments_at_end, is_empty}
use Rattle.ini_edit.specs.SourceEditsAdd.{would_go_on}
use Rattle.ini_edit.specs.SourceEditsAdded.{new_line_end}
use Rattle.ini_edit.specs.SourcePlaces.{PairPlace, Place, gap_of, gap_put, is_nil, last_before_gap}
use Rattle.ini_edit.specs.SourcePlaces.{last_before_pair, last_before_section, pair_place, section_exchanged}
use Rattle.ini_edit.specs.Sources.{PairPiece, Pieces, SectionPiece, document_in}
use Rattle.ini_edit.specs.declared.error.EditError.{EditError}
use Rattle.ini_edit.specs.declared.error.EditError.TheVariants.{NoPlace, Text as TextError, Value}
use Rattle.ini_text.specs.declared.error.Error.TheVariants.{Memory}
use Rattle.ini_text.specs.declared.write.option.WriteOption.{WriteOption}
use Rattle.ini.specs.Edits.{delete_in}
use Rattle.std.specs.Option.{option_map}

-- a pair's source up to its trailing lines
abbrev pub pair_line : Stretches → Text
pair_line p = pair_source (record p { trailing_lines = [] })

-- the comment lines directly above the pair at a place; before the section stands this character
abbrev pub comments_over : (front : ℕ) → SectionPiece → Place PairPiece → Text
comments_over front s p = comments_at_end (last_before_gap front s p.before) (gap_of s.after p.before)

abbrev pub comments_above : PairPlace → Text
comments_above p = comments_over (last_before_section p.section) p.section.here p.pair

-- each line of a text is a comment; LF may be missing after the last one
abbrev pub IsCommentText : Text → Type 0
IsCommentText text = after_comments false text ≡ []

-- comment lines with a line end after the last one
abbrev pub lines_of_comment : (line_end comment : Text) → Text
lines_of_comment line_end comment =
    comment ++ (if is_empty comment || is_column_one comment then [] else line_end)

-- each line after a mark and a space, but for the first
abbrev pub marked : Text → Text
marked [] = []
marked (c ∷ cs) = if is_line_feed c then c ∷ semicolon ∷ space ∷ marked cs else c ∷ marked cs

module _ (o : ParseOption) where
  -- These comments directly above the pair at the place, in place of those there: in column one, after a
  -- line end where it isn't that. There is no place where without its comment the pair, which is indented,
  -- would go on with a multiline value before it.
  abbrev pub comment_put : (line_end comment : Text) → (front : ℕ) → SectionPiece → Place PairPiece
      → Option SectionPiece
  comment_put line_end comment front s p =
      let gap = gap_of s.after p.before in
      let kept = front_of gap (comments_over front s p) in
      let glue = if is_empty comment || is_line_feed (last_or
      (last_before_gap front s p.before) kept) then []
      else line_end in
      let bare = gap_put kept s p.before [] in
      if is_empty comment && (is_empty kept && (not (is_nil p.before) && would_go_on o p.here)) then None
      else Some (rest_put o glue (lines_of_comment line_end comment) bare bare.pairs (p.here ∷ p.after))

  -- the lines of a pair up to its line end; a note behind a key alone is among them
  abbrev pub pair_lines : PairPiece → Text
  pair_lines p = pair_line p.stretches ++ front_of (own_lines o p) (line_end_after o p)

  -- The pair at the place made a comment. None may stand there where the pair isn't in column one, or a CR
  -- alone ends its lines.
  abbrev pub pair_commented_out : (front : ℕ) → SectionPiece → Place PairPiece → Option SectionPiece
  pair_commented_out front s p =
      let rest = line_end_after o p.here ++ (lines_after o p.here ++ gap_after o p.here) in
      if not (is_line_feed (last_before_pair front s p))
      || is_text (line_end_after o p.here) (carriage_return ∷ [])
      then None
      else Some (rest_put o [] (semicolon ∷ space ∷ (marked (pair_lines p.here) ++ rest)) s p.before p.after)

-- an edit of the section at a place, if there is one of it
abbrev pub in_section : ((front : ℕ) → SectionPiece → Place PairPiece → Option SectionPiece) → PairPlace
    → Option (List SectionPiece)
in_section edit p =
    option_map (section_exchanged p) (edit (last_before_section p.section) p.section.here p.pair)

pub record IsCommented (o : ParseOption) (w : WriteOption) (old new : Pieces) (name : Option Text)
    (key comment : Text) : Type 0 where
  pub is_comment : IsCommentText comment
  pub at : PairPlace
  pub was : pair_place name key 0 old.sections ≡ Some at
  pub option : new.option ≡ old.option
  pub sections : in_section (comment_put o (new_line_end w old.sections) comment) at ≡ Some new.sections
  pub document : document_in new ≡ document_in old

-- The comment stands directly above the first pair of the key, or there is no such pair, and all stays.
abbrev pub SetsComment : ParseOption → WriteOption → Pieces → Pieces → Option Text → (key comment : Text)
    → Bool
    → Type 0
SetsComment o w old new name key comment true = IsCommented o w old new name key comment
SetsComment o w old new name key comment false = (new ≡ old) × (pair_place name key 0 old.sections ≡ None)

-- a comment is refused where it isn't one, and where without it the pair would go on with a value
pub data RefusesComment (o : ParseOption) (w : WriteOption) (ss : List SectionPiece) (name : Option Text)
    (key comment : Text) : EditError → Type 0 where
  no_comment : ¬ IsCommentText comment → RefusesComment o w ss name key comment Value
  no_place_bare : {at : PairPlace} → IsCommentText comment → pair_place name key 0 ss ≡ Some at
      → in_section (comment_put o (new_line_end w ss) comment) at ≡ None
      → RefusesComment o w ss name key comment NoPlace
  no_memory : IsCommentText comment → RefusesComment o w ss name key comment (TextError (Memory alloc_error))

-- the first pair of the key is a comment, or there is no such pair, and all stays
pub record IsCommentedOut (o : ParseOption) (old new : Pieces) (name : Option Text)
    (key : Text) : Type 0 where
  pub at : PairPlace
  pub was : pair_place name key 0 old.sections ≡ Some at
  pub option : new.option ≡ old.option
  pub sections : in_section (pair_commented_out o) at ≡ Some new.sections
  pub document : document_in new ≡ delete_in name key (document_in old)

abbrev pub CommentsOut : ParseOption → Pieces → Pieces → Option Text → Text → Bool → Type 0
CommentsOut o old new name key true = IsCommentedOut o old new name key
CommentsOut o old new name key false = (new ≡ old) × (pair_place name key 0 old.sections ≡ None)

pub data RefusesToCommentOut (o : ParseOption) (ss : List SectionPiece) (name : Option Text) (key : Text)
    : EditError → Type 0 where
  no_place_out : {at : PairPlace} → pair_place name key 0 ss ≡ Some at
      → in_section (pair_commented_out o) at ≡ None → RefusesToCommentOut o ss name key NoPlace
  no_memory_out : RefusesToCommentOut o ss name key (TextError (Memory alloc_error))
