use Prim.Native.Nat.{◌+◌, ◌-◌, ◌≤◌}
use Rattle.tree.specs.Records.{records}
use lib.ListN.{drop, length}
use mathlib.Core.Path.{◌≡◌}
use Rattle.opening.proofs.levels.past_leaves.Given as goal

abbrev pub invariant-loop-at : goal.invariant-loop-at
invariant-loop-at l = (l.from ≤ l.at) × (l.n + length (records (drop l.at l.list)) ≡ length (records (drop l.from l.list)))

abbrev pub decreases-loop-at : goal.decreases-loop-at
decreases-loop-at l = length l.list - l.at
