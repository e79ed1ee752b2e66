use Rattle.std.proofs.Common.{◌≡◌, ◌-◌, ◌++◌, length, arith, length-append}
use Rattle.std.proofs.lemmas.Simd.{length-chunk, pick_l_whole}
use lib.Lanes.{chunk}
use Rattle.ini_text.proofs.lanes.both_ends.Goals as goal

pub returns : goal.returns
returns c =
    let bytes = c.args.bytes.now in
    let a = chunk 0 8 bytes in
    let b = chunk (length bytes - 8) 8 bytes in
    let long : length (a ++ b) ≡ 16 =
    omega (
      arith,
      length-append a b,
      length-chunk 0 8 bytes c.requires,
      length-chunk (length bytes - 8)
          8 bytes (omega arith),
    ) in
    pick_l_whole 0 (a ++ b) 16 long
