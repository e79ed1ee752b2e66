use Rattle.std.proofs.Common.{◌-◌, ◌<◌, ◌^◌, cond}
use Rattle.ini_text.specs.Device.Watched.{IsClear, SameDevice, device_now}
use Rattle.ini.proofs.StreamLemmas.{IsStreamed}
use Rattle.ini.proofs.document.Ini.read_watched.Given as goal

abbrev pub invariant-pieces : goal.invariant-pieces
invariant-pieces g l =
    IsClear l.reader × SameDevice l.fn.reader l.reader
    × IsStreamed l.fn.opt l.fn.drop_mark (g.R.Read.remaining (device_now l.fn.reader))
    (g.R.Read.remaining (device_now l.reader)) l.bytes.items l.streaming l.last_line l.is_all
    × (l.last_line < 2 ^ 64)

abbrev pub decreases-pieces : goal.decreases-pieces
decreases-pieces g l = cond l.is_all 0 (2 ^ 64 - l.last_line)
