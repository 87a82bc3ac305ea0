use Prim.Native.Nat.{◌≤◌}
use Rattle.text.specs.Trim.{trim}
use lib.ListN.{length, take}
use mathlib.Core.Path.{◌≡◌}
use Rattle.text.proofs.trim.trimmed.Given as goal

abbrev pub invariant-loop-n : goal.invariant-loop-n
invariant-loop-n l = (l.n ≤ length l.t) × (trim (take l.n l.t) ≡ trim l.t)

abbrev pub decreases-loop-n : goal.decreases-loop-n
decreases-loop-n l = l.n
