use Prim.Native.Nat.{◌-◌, ◌≤◌}
use lib.ListN.{length}
use Rattle.tree.specs.Table.{tree_of}
use Rattle.tree.specs.Cursor.{cursor_of}
use Rattle.tree.proofs.CursorLaws.{Peeking}
use Rattle.tree.proofs.cursor.kept_from.Given as goal

abbrev pub invariant-loop-at : goal.invariant-loop-at
invariant-loop-at l = (l.last ≤ length (tree_of l.table)) × Peeking (tree_of l.table) (cursor_of l.initial.at.0 l.last) l.at.0

abbrev pub decreases-loop-at : goal.decreases-loop-at
decreases-loop-at l = l.last - l.at.0
