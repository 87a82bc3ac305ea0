use Prim.Native.Nat.{◌+◌, ◌-◌}
use Rattle.tree.specs.Records.{records}
use lib.ListN.{drop, length}
use mathlib.Core.Path.{◌≡◌}
use Rattle.opening.proofs.levels.count.Given as goal

abbrev pub invariant-loop-at : goal.invariant-loop-at
invariant-loop-at l = l.n + length (records (drop l.at l.list)) ≡ length (records l.list)

abbrev pub decreases-loop-at : goal.decreases-loop-at
decreases-loop-at l = length l.list - l.at
