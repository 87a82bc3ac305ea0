use Prim.Native.Nat.{◌-◌}
use Rattle.wire.proofs.StateLaws.{Reading}
use Rattle.wire.proofs.state_bytes.queue_in.Given as goal

abbrev pub invariant-loop-i : goal.invariant-loop-i
invariant-loop-i l = Reading l.state l.queue l.i

abbrev pub decreases-loop-i : goal.decreases-loop-i
decreases-loop-i l = 1024 - l.i
