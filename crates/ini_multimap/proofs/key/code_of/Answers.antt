use Rattle.std.proofs.Common.{ℕ, ◌+◌, ◌*◌, ◌%◌, ◌^◌, sym, ◌∙◌, ap, take, drop}
use Rattle.std.proofs.lemmas.List.{take-append-drop, take_rest}
use Rattle.std.proofs.lemmas.List.Sums.{fold-append}
use Rattle.ini_multimap.specs.Keys.{text_code, text_code_from}
use Rattle.ini_multimap.proofs.key.code_of.Goals as goal

pub returns : goal.returns
returns c =
    let bytes = c.args.bytes.now in
    let at = c.loop-at.at in
    let step : ℕ → ℕ → ℕ = λ code byte. (code * 31 + byte) % 2 ^ 64 in
    c.few_more.ensures
    ∙ (λ j. text_code_from (c.loop-at.invariant.1 j) (take_rest bytes at j))
    ∙ sym (fold-append step 0 (take at bytes) (drop at bytes))
    ∙ ap text_code (take-append-drop at bytes)
