use Prim.Native.Nat.{◌+◌, ◌≤◌}
use Rattle.width.specs.Count.{dark}
use lib.ListN.{drop}
use mathlib.Core.Path.{◌≡◌}
use Rattle.width.proofs.count.dark_bytes.Given as goal

-- what is counted and what is still to count make up the whole
abbrev pub invariant-loop-b : goal.invariant-loop-b
invariant-loop-b l = (l.n ≤ l.b-index) × (l.n + dark (drop l.b-index l.s) ≡ dark l.s)
