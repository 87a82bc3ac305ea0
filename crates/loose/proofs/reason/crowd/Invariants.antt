use Rattle.loose.proofs.ReasonLaws.{Crowding}
use Rattle.text.proofs.Base.{◌-◌}
use Rattle.tree.specs.Table.{tree_of}
use Rattle.loose.proofs.reason.crowd.Given as goal

abbrev pub invariant-loop-at : goal.invariant-loop-at
invariant-loop-at l = Crowding (tree_of l.table) l.keys l.initial.at.0 l.end.0 l.at.0 l.entries

abbrev pub decreases-loop-at : goal.decreases-loop-at
decreases-loop-at l = l.end.0 - l.at.0
