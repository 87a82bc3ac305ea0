use Rattle.steps.proofs.Rules.{length, Kind, tree_of, script_of, engine, stream_at, is, parse, Seeing}
use Rattle.bodies.specs.Body.{lined, variant}
use Rattle.bodies.proofs.body.variants.Given as goal

abbrev pub invariant-loop-seen : goal.invariant-loop-seen
invariant-loop-seen l = let rs = tree_of l.table in Seeing (script_of l.src l.table) (is rs Kind.Variant) (lined rs (parse rs (variant rs))) (stream_at rs l.initial.p) (engine l.initial.fmt l.initial.queue l.initial.out) (stream_at rs l.p) (engine l.fmt l.queue l.out) l.seen

abbrev pub decreases-loop-seen : goal.decreases-loop-seen
decreases-loop-seen l = length (stream_at (tree_of l.table) l.p).left
