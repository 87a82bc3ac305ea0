use Rattle.steps.proofs.Rules.{length, tree_of, Nl, script_of, engine, Stream, stream_at, ◌▸◌, call, write, pump, is}
use Rattle.steps.proofs.Rules.{Going}
use Rattle.paths.proofs.attribute.on_lines.Given as goal

abbrev pub invariant-loop-kind : goal.invariant-loop-kind
invariant-loop-kind l = let rs = tree_of l.table in Going (script_of l.src l.table) (λ (s : Stream). s) (is rs l.kind) (pump write ▸ call (Nl 1)) (stream_at rs l.initial.p) (engine l.initial.fmt l.initial.queue l.initial.out) (stream_at rs l.p) (engine l.fmt l.queue l.out)

abbrev pub decreases-loop-kind : goal.decreases-loop-kind
decreases-loop-kind l = length (stream_at (tree_of l.table) l.p).left
