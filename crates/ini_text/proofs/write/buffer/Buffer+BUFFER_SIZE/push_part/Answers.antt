use Rattle.ini_text.specs.Buffered.{buffered}
use Rattle.ini_text.proofs.WriteLemmas.BufferLemmas.{front-appended, front-then}
use Rattle.ini_text.proofs.write.buffer.Buffer+BUFFER_SIZE.push_part.Goals as goal

pub returns-clause-front : goal.returns-clause-front
returns-clause-front c =
    front-then (buffered c.args.self.now) (buffered c.push_text.new.self) _ c.push_text.ensures.front
    (front-appended (buffered c.push_text.new.self) _ c.push.ensures)
