use Prim.Native.Nat.{◌-◌, ◌≤◌}
use Rattle.width.specs.Walk.{Tallied}
use lib.ListN.{length}
use Rattle.width.proofs.count.over_wide.Given as goal

abbrev pub invariant-loop-i : goal.invariant-loop-i
invariant-loop-i l = Tallied l.t l.from l.i l.n × (l.n ≤ l.left)

abbrev pub decreases-loop-i : goal.decreases-loop-i
decreases-loop-i l = length l.t - l.i
