use Rattle.std.proofs.Common.{ℕ, Bool, ◌∙◌, ◌||◌, ap, ap₂, sym}
use lib.Bits.{bit_or}
use lib.Lanes.{mask_l}
use Rattle.ini_text.specs.Escaping.Policies.{is_basic, is_reserved}
use Rattle.ini_text.specs.Inside.Verbatim.{begins_escaped}
use Rattle.ini_text.specs.declared.write.policy.EscapePolicy.TheVariants.{Reserved}
use Rattle.ini_text.proofs.StringLemmas.LaneLemmas.{map_same, mask_either}
use Rattle.ini_text.proofs.WriteLemmas.VerbatimRunLemmas.{begins-reserved}
use Rattle.ini_text.proofs.write.verbatim.ReservedMarks.find.Goals as goal

pub returns : goal.returns
returns c =
    let test : ℕ → Bool = λ byte. is_basic byte || is_reserved byte in
    ap₂ bit_or c.basic_bits.ensures c.reserved_bits.ensures ∙ mask_either is_basic is_reserved c.args.lanes
    ∙ ap mask_l (map_same test (begins_escaped Reserved) (λ byte. sym (begins-reserved byte)) c.args.lanes)
