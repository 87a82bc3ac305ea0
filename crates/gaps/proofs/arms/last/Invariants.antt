use Rattle.gaps.proofs.ArmLaws.{Lasting}
use Rattle.steps.proofs.Rules.{length, stream_at, tree_of}
use Rattle.gaps.proofs.arms.last.Given as goal

abbrev pub invariant-loop-n : goal.invariant-loop-n
invariant-loop-n l = Lasting (stream_at (tree_of l.table) l.initial.p) (stream_at (tree_of l.table) l.p) l.n

abbrev pub decreases-loop-n : goal.decreases-loop-n
decreases-loop-n l = length (stream_at (tree_of l.table) l.p).left
