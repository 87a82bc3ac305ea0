use Rattle.opening.proofs.WalkLaws.{Going}
use Rattle.opening.proofs.levels.+level.Given as goal

abbrev pub decreases-level : goal.decreases-level
decreases-level l = l.d

abbrev pub invariant-loop-part : goal.invariant-loop-part
invariant-loop-part l = Going l.src l.list l.initial.part l.hi.0 l.d l.part

abbrev pub decreases-loop-part : goal.decreases-loop-part
decreases-loop-part l = l.part.left.0
