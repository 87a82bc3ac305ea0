use Rattle.steps.proofs.Rules.{length, Kind, tree_of, stream_at, is}
use Rattle.uses.proofs.UseLaws.{Single}
use Rattle.uses.proofs.use_parts.is_single.Given as goal

abbrev pub invariant-loop-p : goal.invariant-loop-p
invariant-loop-p l = let rs = tree_of l.table in Single (is rs Kind.ItemUsePath) (stream_at rs l.initial.p) (stream_at rs l.p) l.found

abbrev pub decreases-loop-p : goal.decreases-loop-p
decreases-loop-p l = length (stream_at (tree_of l.table) l.p).left
