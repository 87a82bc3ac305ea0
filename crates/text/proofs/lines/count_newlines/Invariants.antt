use Prim.Native.Nat.{◌+◌, ◌≤◌}
use Rattle.text.specs.Lines.{newlines}
use lib.ListN.{drop}
use mathlib.Core.Path.{◌≡◌}
use Rattle.text.proofs.lines.count_newlines.Given as goal

-- what is counted and what is still to count make up the whole
abbrev pub invariant-loop-b : goal.invariant-loop-b
invariant-loop-b l = (l.n ≤ l.b-index) × (l.n + newlines (drop l.b-index l.t) ≡ newlines l.t)
