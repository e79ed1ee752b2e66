-- Values: a line, and in multiline values the lines with which it goes on.
use Rattle.std.specs.Prelude.{◌≡◌, ℕ, true, false, List, [], ◌∷◌, ◌++◌}
use Rattle.ini_text.specs.Grammar.CharacterKinds.{line_feed, carriage_return, is_blank, is_line_end}
use Rattle.ini_text.specs.Grammar.CharacterKinds.{is_comment_mark, is_line_feed, BeginsWith, BeginsWithNo}
use Rattle.ini_text.specs.Grammar.WhiteSpace.{Lead, without_outer_line_feeds}
use Rattle.ini_text.specs.Grammar.Lines.{Line, LineStops, Note}
use Rattle.ini_text.specs.declared.option.ParseOption.{ParseOption}
use Rattle.ini_text.specs.declared.error.ParseKind.{ParseKind}
use Rattle.ini_text.specs.declared.error.ParseKind.TheVariants.{CrAlone}

-- a line end before r: LF, CR LF, or a CR with no LF after it
pub data LineEnd : List ℕ → List ℕ → Type 0 where
  lf : {r : List ℕ} → LineEnd (line_feed ∷ []) r
  cr_lf : {r : List ℕ} → LineEnd (carriage_return ∷ line_feed ∷ []) r
  cr : {r : List ℕ} → BeginsWithNo is_line_feed r → LineEnd (carriage_return ∷ []) r

-- white space that begins with a blank, before the text of a line with which a value goes on; where
-- indented comments are on, that text begins with no comment mark
pub record GoesOn (o : ParseOption) (w rest : List ℕ) : Type 0 where
  pub begins : BeginsWith is_blank w
  pub lead : Lead w rest
  pub text : o.enabled_indented_comment ≡ true → BeginsWithNo is_comment_mark rest

-- an indented comment among a value's lines, before r
pub data CommentLine (o : ParseOption) : List ℕ → List ℕ → Type 0 where
  comment : {w n r : List ℕ} → o.enabled_indented_comment ≡ true → BeginsWith is_blank w → Lead w (n ++ r)
      → Note n r → CommentLine o (w ++ n) r

-- the lines after a value's first line end, before r, and their values joined
pub data MoreLines (o : ParseOption) : List ℕ → List ℕ → List ℕ → Type 0 where
  done : {r : List ℕ} → BeginsWithNo is_blank r → BeginsWithNo is_line_end r → MoreLines o [] r []
  empty_lf : {t r v : List ℕ} → MoreLines o t r v → MoreLines o (line_feed ∷ t) r (line_feed ∷ v)
  empty_cr_lf : {t r v : List ℕ} → MoreLines o t r v
      → MoreLines o (carriage_return ∷ line_feed ∷ t) r (line_feed ∷ v)
  -- a line that begins with a blank goes on with the value
  continued : {w l e t r u v : List ℕ} → GoesOn o w (l ++ (e ++ (t ++ r)))
      → Line o false l (e ++ (t ++ r)) u → LineEnd e (t ++ r)
      → MoreLines o t r v → MoreLines o (w ++ (l ++ (e ++ t))) r (line_feed ∷ (u ++ v))
  -- such a line may end with the text
  last : {w l u : List ℕ} → GoesOn o w l → Line o false l [] u → MoreLines o (w ++ l) [] (line_feed ∷ u)
  -- an indented comment gives nothing, not even a line feed
  comment : {s e t r v : List ℕ} → CommentLine o s (e ++ (t ++ r)) → LineEnd e (t ++ r)
      → MoreLines o t r v → MoreLines o (s ++ (e ++ t)) r v
  last_comment : {s : List ℕ} → CommentLine o s [] → MoreLines o s [] []

-- the value of source s before r, with the text it stands for
pub data Value (o : ParseOption) : List ℕ → List ℕ → List ℕ → Type 0 where
  one_line : {w l r v : List ℕ} → o.enabled_indented_mutiline_value ≡ false → Lead w (l ++ r)
      → Line o true l r v → Value o (w ++ l) r v
  -- a multiline value whose one line ends with the text
  to_end : {w l v : List ℕ} → o.enabled_indented_mutiline_value ≡ true → Lead w l → Line o true l [] v
      → Value o (w ++ l) [] (without_outer_line_feeds v)
  lines : {w l e t r u v : List ℕ} → o.enabled_indented_mutiline_value ≡ true
      → Lead w (l ++ (e ++ (t ++ r))) → Line o true l (e ++ (t ++ r)) u → LineEnd e (t ++ r)
      → MoreLines o t r v → Value o (w ++ (l ++ (e ++ t))) r (without_outer_line_feeds (u ++ v))

-- the source of lines after the first line end, at whose end reading stops, before r
pub data MoreLinesStop (o : ParseOption) : List ℕ → List ℕ → ParseKind → Type 0 where
  empty_lf : {t r : List ℕ} {kind : ParseKind} → MoreLinesStop o t r kind
      → MoreLinesStop o (line_feed ∷ t) r kind
  empty_cr_lf : {t r : List ℕ} {kind : ParseKind} → MoreLinesStop o t r kind
      → MoreLinesStop o (carriage_return ∷ line_feed ∷ t) r kind
  continued : {w l e t r u : List ℕ} {kind : ParseKind} → GoesOn o w (l ++ (e ++ (t ++ r)))
      → Line o false l (e ++ (t ++ r)) u → LineEnd e (t ++ r)
      → MoreLinesStop o t r kind → MoreLinesStop o (w ++ (l ++ (e ++ t))) r kind
  comment : {s e t r : List ℕ} {kind : ParseKind} → CommentLine o s (e ++ (t ++ r)) → LineEnd e (t ++ r)
      → MoreLinesStop o t r kind → MoreLinesStop o (s ++ (e ++ t)) r kind
  in_line : {w s r : List ℕ} {kind : ParseKind} → GoesOn o w (s ++ r)
      → LineStops o s r kind → MoreLinesStop o (w ++ s) r kind
  -- in an empty line's place, CR before another character than LF, or before the text's end
  cr_alone : {c : ℕ} {r : List ℕ} → is_line_feed c ≡ false
      → MoreLinesStop o (carriage_return ∷ c ∷ []) r CrAlone
  cr_at_end : MoreLinesStop o (carriage_return ∷ []) [] CrAlone

-- a value's source at whose end reading stops, before r
pub data ValueStops (o : ParseOption) : List ℕ → List ℕ → ParseKind → Type 0 where
  first_line : {w s r : List ℕ} {kind : ParseKind} → Lead w (s ++ r) → LineStops o s r kind
      → ValueStops o (w ++ s) r kind
  later_line : {w l e t r u : List ℕ} {kind : ParseKind} → o.enabled_indented_mutiline_value ≡ true
      → Lead w (l ++ (e ++ (t ++ r))) → Line o true l (e ++ (t ++ r)) u → LineEnd e (t ++ r)
      → MoreLinesStop o t r kind → ValueStops o (w ++ (l ++ (e ++ t))) r kind
