use Prim.Native.Nat.{◌-◌}
use Rattle.width.specs.Walk.{Tallied}
use lib.ListN.{length}
use Rattle.width.proofs.count.over_blocks.Given as goal

abbrev pub invariant-loop-n : goal.invariant-loop-n
invariant-loop-n l = Tallied l.t l.from l.i l.n

abbrev pub decreases-loop-n : goal.decreases-loop-n
decreases-loop-n l = length l.t - l.i
