use Rattle.std.proofs.Common.{◌∙◌, sym, eqb-true}
use Rattle.std.proofs.lemmas.List.{nil_from_length}
use Rattle.ini_text.specs.Buffered.{buffered}
use Rattle.ini_text.proofs.WriteLemmas.MarkedByteLemmas.{pushed_all}
use Rattle.ini_text.proofs.WriteLemmas.SendLemmas.{SendsBytes-after, SendsBytes-unsent}
use Rattle.ini_text.proofs.write.gather.Gatherer.put_marked.Goals as goal

pub returns-then-is_empty : goal.returns-then-is_empty
returns-then-is_empty g c =
    let rest = c.push_marked-rest.result.now in
    let none = nil_from_length rest (eqb-true _ 0 (sym c.is_empty.ensures ∙ c.if-is_empty.true)) in
    SendsBytes-unsent c.requires (pushed_all (g.M.Marks.is_marked c.args.marks.now)
    (buffered c.push_marked-rest.new.self) rest none c.push_marked-rest.ensures.pushed)

pub returns : goal.returns
returns g c = SendsBytes-after (sym c.push_marked-rest.ensures.pushed) c.put_pieces.ensures
