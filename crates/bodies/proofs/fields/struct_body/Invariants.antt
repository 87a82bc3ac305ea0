use Rattle.steps.proofs.Rules.{length, Kind, tree_of, script_of, engine, stream_at, is, Seeing}
use Rattle.bodies.specs.Body.{field, lined}
use Rattle.bodies.proofs.fields.struct_body.Given as goal

abbrev pub invariant-loop-seen : goal.invariant-loop-seen
invariant-loop-seen l = let rs = tree_of l.table in Seeing (script_of l.src l.table) (is rs Kind.Field) (lined rs (field rs)) (stream_at rs l.initial.p) (engine l.initial.fmt l.initial.queue l.initial.out) (stream_at rs l.p) (engine l.fmt l.queue l.out) l.seen

abbrev pub decreases-loop-seen : goal.decreases-loop-seen
decreases-loop-seen l = length (stream_at (tree_of l.table) l.p).left
