use Prim.Native.Nat.{◌-◌}
use Rattle.tree.proofs.TableLaws.{Writing}
use Rattle.tree.proofs.table.decode.Given as goal

abbrev pub invariant-loop-n : goal.invariant-loop-n
invariant-loop-n l = Writing l.list l.initial.to l.to l.most l.n l.at

abbrev pub decreases-loop-n : goal.decreases-loop-n
decreases-loop-n l = l.most - l.n
