use Rattle.std.proofs.Common.{◌∙◌, ◌++◌, ap, chars, sym}
use Rattle.std.proofs.lemmas.Str.{chars-nil}
use Rattle.std.specs.Cmp.Lexicographic.{bytes_decides}
use Rattle.ini_check.specs.Mends.Elements.{mended}
use Rattle.ini_check.proofs.MendLemmas.{became_mended, became_same, stayed}
use Rattle.ini_check.proofs.mends.elements.push_better.Goals as goal

pub returns-then-is_same_text-clause-mended : goal.returns-then-is_same_text-clause-mended
returns-then-is_same_text-clause-mended c =
    let e = c.args.element.now in
    let new = mended c.args.read c.args.trap (chars e.source.now) e.content in
    let is = ap chars c.as_str-made.ensures.value ∙ c.in_ok-push_mended.ensures
    ∙ ap (λ x. x ++ new) (ap chars c.new-made.ensures.bytes ∙ chars-nil) in
    became_same _ is
    ((bytes_decides _ _).0 (sym c.is_same_text.ensures ∙ c.if-is_same_text.true)) c.in_ok-push_text.ensures

pub returns-then-is_so-clause-mended : goal.returns-then-is_so-clause-mended
returns-then-is_so-clause-mended c =
    let e = c.args.element.now in
    let new = mended c.args.read c.args.trap (chars e.source.now) e.content in
    let is = ap chars c.as_str-made.ensures.value ∙ c.in_ok-push_mended.ensures
    ∙ ap (λ x. x ++ new) (ap chars c.new-made.ensures.bytes ∙ chars-nil) in
    became_mended _ is c.in_ok-is_so.ensures.judged c.if-is_so.true c.in_ok-push_text-2.ensures

pub returns-clause-mended : goal.returns-clause-mended
returns-clause-mended c =
    let e = c.args.element.now in
    let new = mended c.args.read c.args.trap (chars e.source.now) e.content in
    let is = ap chars c.as_str-made.ensures.value ∙ c.in_ok-push_mended.ensures
    ∙ ap (λ x. x ++ new) (ap chars c.new-made.ensures.bytes ∙ chars-nil) in
    stayed _ is c.in_ok-is_so.ensures.judged c.if-is_so.false c.in_ok-push_text-3.ensures
