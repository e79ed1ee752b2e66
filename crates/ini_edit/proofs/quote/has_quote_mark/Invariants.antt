use Rattle.std.proofs.Common.{◌≡◌, length, chars}
use denote.Shadow.{shadow}
use denote.Text.{Utf8}
use Rattle.ini_edit.specs.Quotes.{has_quote_mark}
use Rattle.ini_edit.proofs.quote.has_quote_mark.Given as goal

abbrev pub invariant-characters : goal.invariant-characters
invariant-characters l =
    (has_quote_mark (chars l.fn.text) l.fn.mark ≡ has_quote_mark (chars l.rest) l.fn.mark)
    × shadow (Utf8 l.rest)

abbrev pub decreases-characters : goal.decreases-characters
decreases-characters l = length (chars l.rest)
