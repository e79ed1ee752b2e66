use Rattle.std.proofs.Common.{◌∙◌, chars, inl, inr, sym}
use Rattle.std.proofs.lemmas.Bool.{both_ways}
use Rattle.ini_edit.proofs.WritableLemmas.{raw_decides}
use Rattle.ini_edit.proofs.writable.is_writable_value.Goals as goal

pub returns-then-is_plain_value : goal.returns-then-is_plain_value
returns-then-is_plain_value c = (
  λ t. inl (c.is_plain_value.ensures.0 c.if-is_plain_value.true),
  λ _. c.if-is_plain_value.true,
)

pub returns-else-is_plain_value : goal.returns-else-is_plain_value
returns-else-is_plain_value c =
    let decides = raw_decides c.args.read c.args.policy (chars c.args.value.now) in (
      λ t. inr (decides.0 (sym c.is_raw_value.ensures ∙ t)),
      λ writable. elim writable [
        | inl plain ↦ absurd
            (both_ways c.is_plain_value.result c.if-is_plain_value.false (c.is_plain_value.ensures.1 plain))
        | inr raw ↦ c.is_raw_value.ensures ∙ decides.1 raw
      ],
    )
