use Rattle.loose.proofs.ChainLaws.{Calling}
use Rattle.text.proofs.Base.{◌-◌}
use Rattle.tree.specs.Table.{tree_of}
use Rattle.loose.proofs.chain.first_call.Given as goal

abbrev pub invariant-loop-at : goal.invariant-loop-at
invariant-loop-at l = Calling (tree_of l.table) l.initial.at.0 l.end.0 l.at.0 l.nth

abbrev pub decreases-loop-at : goal.decreases-loop-at
decreases-loop-at l = l.end.0 - l.at.0
