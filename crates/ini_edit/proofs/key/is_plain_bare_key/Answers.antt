use Rattle.std.proofs.Common.{◌∙◌, ap, not, subst, sym}
use Rattle.std.proofs.lemmas.Bool.{both_ways, not-true}
use Rattle.std.proofs.lemmas.Str.{chars-nil}
use Rattle.ini_text.specs.Laws.Plain.{IsPlainPair}
use Rattle.ini_edit.proofs.PlainKeyLemmas.{bare_no_space, bare_plain, plain_bare}
use Rattle.ini_edit.proofs.key.is_plain_bare_key.Goals as goal

pub returns-then-is_plain_pair : goal.returns-then-is_plain_pair
returns-then-is_plain_pair c = (
  λ t. plain_bare (c.is_plain_pair.ensures.0 c.if-is_plain_pair.true)
      (sym c.begins_with_space.ensures ∙ not-true c.begins_with_space.result t),
  λ b. ap not (c.begins_with_space.ensures ∙ bare_no_space b),
)

pub returns-else-is_plain_pair : goal.returns-else-is_plain_pair
returns-else-is_plain_pair c = (
  λ t. absurd (both_ways c.is_plain_pair.result c.if-is_plain_pair.false t),
  λ b. c.is_plain_pair.ensures.1 (subst (IsPlainPair _ _ _) (sym chars-nil) (bare_plain b)),
)
