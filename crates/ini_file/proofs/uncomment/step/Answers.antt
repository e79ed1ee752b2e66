use Rattle.ini_edit.proofs.WalkLemmas.{step_stops}
use Rattle.ini_file.proofs.uncomment.step.Goals as goal

pub returns-clause-fault : goal.returns-clause-fault
returns-clause-fault c =
    step_stops c.next_element.new.self.front c.next_element.result c.requires.reads
    (c.next_element.ensures.element c.requires.refusal)
