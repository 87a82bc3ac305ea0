use Rattle.loose.proofs.ChainLaws.{Dotting}
use Rattle.text.proofs.Base.{◌-◌}
use Rattle.tree.specs.Table.{tree_of}
use Rattle.loose.proofs.chain.dot_behind.Given as goal

abbrev pub invariant-loop-at : goal.invariant-loop-at
invariant-loop-at l = Dotting (tree_of l.table) l.initial.at.0 l.end.0 l.initial.left l.at.0 l.left

abbrev pub decreases-loop-at : goal.decreases-loop-at
decreases-loop-at l = l.end.0 - l.at.0
