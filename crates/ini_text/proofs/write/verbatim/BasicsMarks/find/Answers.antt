use Rattle.std.proofs.Common.{◌∙◌, ap, sym}
use lib.Lanes.{mask_l}
use Rattle.ini_text.specs.Escaping.Policies.{is_basic}
use Rattle.ini_text.specs.Inside.Verbatim.{begins_escaped}
use Rattle.ini_text.specs.declared.write.policy.EscapePolicy.TheVariants.{Basics}
use Rattle.ini_text.proofs.StringLemmas.LaneLemmas.{map_same}
use Rattle.ini_text.proofs.WriteLemmas.VerbatimRunLemmas.{begins-basic}
use Rattle.ini_text.proofs.write.verbatim.BasicsMarks.find.Goals as goal

pub returns : goal.returns
returns c = c.basic_bits.ensures
    ∙ ap mask_l (map_same is_basic (begins_escaped Basics) (λ byte. sym (begins-basic byte)) c.args.lanes)
