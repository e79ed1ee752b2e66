use Rattle.std.proofs.Common.{◌≡◌, length, chars, false}
use denote.Shadow.{shadow}
use denote.Text.{Utf8}
use Rattle.ini_edit.specs.Inside.Quotes.{after_quote_mark}
use Rattle.ini_edit.proofs.quote.ends_at_quote_mark.Given as goal

abbrev pub invariant-characters : goal.invariant-characters
invariant-characters l =
    (after_quote_mark l.fn.read l.fn.mark false (chars l.fn.text)
    ≡ after_quote_mark l.fn.read l.fn.mark l.is_taken (chars l.rest))
    × shadow (Utf8 l.rest)

abbrev pub decreases-characters : goal.decreases-characters
decreases-characters l = length (chars l.rest)
