use Rattle.std.proofs.Common.{◌-◌, ◌^◌, vec_len}
use Rattle.ini_text.specs.Device.Watched.{IsClear, SameDevice, device_now}
use Rattle.ini.specs.Inside.ReadBytes.{HasRead}
use Rattle.ini_tool.proofs.reading.read_after.Given as goal

abbrev pub invariant-pieces : goal.invariant-pieces
invariant-pieces g l =
    IsClear l.reader × SameDevice l.fn.reader l.reader
    × HasRead (g.R.Read.remaining (device_now l.fn.reader))
    (g.R.Read.remaining (device_now l.reader)) l.fn.bytes.items l.bytes.items

abbrev pub decreases-pieces : goal.decreases-pieces
decreases-pieces g l = 2 ^ 64 - vec_len l.bytes
