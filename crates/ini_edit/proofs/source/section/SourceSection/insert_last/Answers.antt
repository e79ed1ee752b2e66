use Rattle.std.proofs.Common.{ap, arith, length}
use Rattle.ini_text.specs.Options.WriteOptions.{line_end}
use Rattle.ini_edit.specs.Inside.SourceEnds.{made_pair}
use Rattle.ini_edit.proofs.InsertedPairLemmas.{put_last}
use Rattle.ini_edit.proofs.source.section.SourceSection.insert_last.Goals as goal

pub returns-in_ok-insert_after-in-Some-clause-put :
    goal.returns-in_ok-insert_after-in-Some-clause-put
returns-in_ok-insert_after-in-Some-clause-put c =
    let s = c.args.self.now in
    let same = ap (λ s. length s.pairs) c.self.view_is in
    put_last c.args.read (line_end c.args.end) (made_pair c.args.read c.args.pair) c.args.is_last s s.pairs
    (omega (arith, same, c.in-Some.ensures), omega (arith, same, c.in-Some.ensures))
    c.in_ok-insert_after-in-Some.ensures.put
