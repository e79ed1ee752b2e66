use Rattle.std.proofs.Common.{◌≡◌, ◌∙◌, ap, chars, false, get_or, sym, true}
use Rattle.ini_edit.specs.Sources.{has_separator}
use Rattle.ini_edit.proofs.SourcePlaceLemmas.{place_read}
use Rattle.ini_edit.proofs.SourceWrittenLemmas.{set_here, set_separated, set_stays}
use Rattle.ini_edit.proofs.source.section.SourceSection.set_at.Goals as goal

pub returns-in_default-clause-set : goal.returns-in_default-clause-set
returns-in_default-clause-set c = λ p at.
    set_stays c.args.self.now at (rw c.in_default.is at (c.in_ok-raw_value.ensures.written p at))

pub returns-then-has_separator-clause-set : goal.returns-then-has_separator-clause-set
returns-then-has_separator-clause-set c = λ p at.
    let has : has_separator p.here ≡ true =
    sym (c.has_separator.ensures ∙ ap has_separator (place_read at
    (c.index-pairs-index.is
    ∙ ap (λ ps. get_or ps c.args.index c.index-pairs-index.result) c.pairs.ensures)))
    ∙ c.if-has_separator.true in
    let written = rw c.in-Some.is at (c.in_ok-raw_value.ensures.written p at) in
    set_here c.args.self.now at has written.0 written.1 (ap chars c.in_ok-value.ensures.ok)
    (c.in_ok-put_value_at.ensures.put p.here)

pub returns-clause-set : goal.returns-clause-set
returns-clause-set c = λ p at.
    let lone : has_separator p.here ≡ false =
    sym (c.has_separator.ensures ∙ ap has_separator (place_read at
    (c.index-pairs-index.is
    ∙ ap (λ ps. get_or ps c.args.index c.index-pairs-index.result) c.pairs.ensures)))
    ∙ c.if-has_separator.false in
    let written = rw c.in-Some.is at (c.in_ok-raw_value.ensures.written p at) in
    set_separated c.args.self.now at lone written.0 written.1 (ap chars c.in_ok-value.ensures.ok)
    (c.in_ok-put_separator_at.ensures.put p at)
