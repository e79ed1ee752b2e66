use Rattle.ini_text.specs.Grammar.CharacterKinds.{space}
use Rattle.ini_text.specs.Parsing.Items.{string_text}
use Rattle.ini_edit.proofs.LayoutLemmas.{spaces_none, spaces_step}
use Rattle.ini_edit.proofs.source.layout.pair.push_spaces.Goals as goal

pub spaces-preserved : goal.spaces-preserved
spaces-preserved c =
    spaces_step space c.spaces.left (string_text c.spaces.out) c.spaces-test.true c.spaces.invariant
    c.in_ok-push.ensures

pub returns-clause-pushed : goal.returns-clause-pushed
returns-clause-pushed c = spaces_none space c.spaces.left c.spaces-test.false c.spaces.invariant
