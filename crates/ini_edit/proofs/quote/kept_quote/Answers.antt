use Rattle.std.proofs.Common.{subst, sym, ◌∙◌}
use Rattle.std.proofs.lemmas.Bool.{not-false, not-true}
use Rattle.ini_edit.specs.Quotes.{KeepsQuote}
use Rattle.ini_edit.proofs.CharsLemmas.{chars-none}
use Rattle.ini_edit.proofs.QuoteLemmas.{bare_none, mark_kept, mark_none, off_none}
use Rattle.ini_edit.proofs.quote.kept_quote.Goals as goal

pub returns-then-not-read : goal.returns-then-not-read
returns-then-not-read c =
    subst (KeepsQuote _ _ _) (sym chars-none)
    (off_none (not-true c.args.read.enabled_quote c.if-not-read.true))

pub returns-in_default : goal.returns-in_default
returns-in_default c = subst (KeepsQuote _ _ _) (sym chars-none) (bare_none c.in_default.ensures)

pub returns-then-has_quote_mark : goal.returns-then-has_quote_mark
returns-then-has_quote_mark c =
    subst (KeepsQuote _ _ _) (sym chars-none)
    (mark_none c.in-Some.ensures (sym c.has_quote_mark.ensures ∙ c.if-has_quote_mark.true))

pub returns : goal.returns
returns c =
    mark_kept (not-false c.args.read.enabled_quote c.if-not-read.false) c.requires c.in-Some.ensures
    (sym c.has_quote_mark.ensures ∙ c.if-has_quote_mark.false)
    c.quote_mark_text.ensures
