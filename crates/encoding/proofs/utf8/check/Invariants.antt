use Prim.Native.Nat.{◌-◌}
use Rattle.encoding.specs.Walk.{Past}
use lib.ListN.{length}
use Rattle.encoding.proofs.utf8.check.Given as goal

abbrev pub invariant-loop-i : goal.invariant-loop-i
invariant-loop-i l = Past l.s 0 l.i

abbrev pub decreases-loop-i : goal.decreases-loop-i
decreases-loop-i l = length l.s - l.i
