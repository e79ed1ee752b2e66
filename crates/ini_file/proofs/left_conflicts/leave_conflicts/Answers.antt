use Rattle.std.proofs.Common.{arith}
use Rattle.ini_layers.specs.Merging.{conflicts_of}
use Rattle.ini_file.proofs.LeftLemmas.{refused_early}
use Rattle.ini_file.proofs.left_conflicts.leave_conflicts.Goals as goal

pub returns-in-Err-clause-refused : goal.returns-in-Err-clause-refused
returns-in-Err-clause-refused c =
    refused_early c.args.which c.args.rule c.args.write.now c.args.side
    (conflicts_of c.args.sides.now.base c.args.sides.now.ours c.args.sides.now.theirs) c.args.source.now
    c.refused_first.result (grind arith)

pub returns-in-Err-conflict_lines-clause-refused : goal.returns-in-Err-conflict_lines-clause-refused
returns-in-Err-conflict_lines-clause-refused c =
    refused_early c.args.which c.args.rule c.args.write.now c.args.side
    (conflicts_of c.args.sides.now.base c.args.sides.now.ours c.args.sides.now.theirs) c.args.source.now
    c.refused_first-in-Err-conflict_lines.result c.refused_first-in-Err-conflict_lines.ensures
