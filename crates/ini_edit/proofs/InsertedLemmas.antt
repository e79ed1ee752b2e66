-- Line ends as they are written.
use Rattle.std.proofs.Common.{◌≡◌, true, List, ℕ, [], ◌∷◌, ◌++◌, ap, refl}
use Rattle.std.specs.List.{list_all}
use Rattle.ini_text.specs.Grammar.CharacterKinds.{carriage_return, is_line_end, is_line_feed, line_feed}
use Rattle.ini_text.specs.Grammar.Positions.{is_column_one}
use Rattle.ini_text.specs.Grammar.Strings.{Closes, plain_ends}
use Rattle.ini_text.specs.Options.WriteOptions.{line_end}
use Rattle.ini_text.specs.declared.write.option.LineSeparator.{LineSeparator}
use Rattle.ini_text.specs.declared.write.option.LineSeparator.TheVariants.{CR, CRLF, SystemDefault}
use Rattle.ini_text.proofs.LawLemmas.MovedLemmas.{last_or-after}

pub line_end-all : (s : LineSeparator) → list_all is_line_end (line_end s) ≡ true
line_end-all SystemDefault = refl
line_end-all CR = refl
line_end-all CRLF = refl

pub line_end-closes : (s : LineSeparator) (r : List ℕ) → Closes plain_ends (line_end s ++ r)
line_end-closes SystemDefault r = refl
line_end-closes CR r = refl
line_end-closes CRLF r = refl

pub line_end-column : (s : LineSeparator) (x : List ℕ) → is_column_one (x ++ line_end s) ≡ true
line_end-column SystemDefault x = ap is_line_feed (last_or-after line_feed line_feed x [])
line_end-column CR x = ap is_line_feed (last_or-after line_feed line_feed x [])
line_end-column CRLF x = ap is_line_feed (last_or-after line_feed carriage_return x (line_feed ∷ []))
