use Rattle.std.proofs.Common.{◌++◌, length}
use denote.Text.{Utf8}
use denote.Shadow.{shadow}
use Rattle.ini_text.specs.Escaping.EscapedTexts.{escaped_bytes}
use Rattle.ini_text.specs.Device.Unsent.{unsent}
use Rattle.ini_text.proofs.WriteLemmas.SendLemmas.{Leaving}
use Rattle.ini_text.proofs.write.gather.Gatherer.put_runs.Given as goal

abbrev pub invariant-runs : goal.invariant-runs
invariant-runs g l = record {
  is_text : shadow (Utf8 l.rest);
  leaving : Leaving g.W.Write.contents l.fn.out l.out
      (unsent l.fn.self ++ escaped_bytes l.policy l.fn.text) (unsent l.self ++ escaped_bytes l.policy l.rest);
}

abbrev pub decreases-runs : goal.decreases-runs
decreases-runs g l = length l.rest
