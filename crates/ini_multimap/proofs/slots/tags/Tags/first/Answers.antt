use Rattle.std.proofs.Common.{rules, ◌≡◌, ◌==◌, ◌∙◌, ap, sym, arith, length, map}
use Rattle.std.proofs.lemmas.Simd.{bitmask_splat, leading_from_mask_l, trailing_mask_l}
use Rattle.std.specs.List.{position_or_len}
use lib.Count.{count_trailing_zeros}
use lib.Lanes.{mask_l}
use mir.Syntax.{w8}
use Rattle.ini_multimap.proofs.slots.tags.Tags.first.Goals as goal

pub returns-then-bits-eq0 : goal.returns-then-bits-eq0
returns-then-bits-eq0 c =
    let tags = c.args.self.now.of in
    let tag = c.tag.result in
    let long : length tags ≡ 16 = search rules in
    let bits = bitmask_splat w8 (λ a b. a == b) tags 16 tag long (omega arith) in
    let none : mask_l (map (λ t. t == tag) tags) ≡ 0 = omega (arith, bits) in
    sym (leading_from_mask_l (λ t. t == tag) tags none ∙ long)
    ∙ ap (λ k. position_or_len (λ t. t == k) tags) c.tag.ensures

pub returns-else-bits-eq0 : goal.returns-else-bits-eq0
returns-else-bits-eq0 c =
    let tags = c.args.self.now.of in
    let tag = c.tag.result in
    let long : length tags ≡ 16 = search rules in
    let bits = bitmask_splat w8 (λ a b. a == b) tags 16 tag long (omega arith) in
    ap (count_trailing_zeros 64) bits
    ∙ trailing_mask_l (λ t. t == tag) 64 tags (omega (arith, long)) (omega (arith, bits))
    ∙ ap (λ k. position_or_len (λ t. t == k) tags) c.tag.ensures
