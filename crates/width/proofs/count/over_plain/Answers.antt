-- The invariant: what was passed is tallied.
use Prim.Native.Nat.{◌<◌}
use lib.ListN.{get_or}
use native.Mathlib.Omega.{arith}
use Rattle.width.proofs.CountLaws.{tally_byte, tally_join}
use Rattle.width.proofs.count.over_plain.Goals as goal

pub loop-i-preserved : goal.loop-i-preserved
loop-i-preserved c =
    let plain : get_or c.args.t.now c.loop-i.i 0 < 0x80 = omega arith in
    tally_join c.loop-i.invariant (tally_byte c.loop-i-test.true plain c.is_white_byte.ensures)
