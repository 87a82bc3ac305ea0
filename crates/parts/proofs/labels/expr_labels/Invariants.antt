use Rattle.steps.proofs.Rules.{Going, Kind, Stream, Ws, ◌▸◌, call, engine, fmt, is, length}
use Rattle.steps.proofs.Rules.{pump, put_remaining, script_of, stream_at, tree_of, write}
use Rattle.steps.specs.declared.remaining.Mark.TheVariants.{Colon}
use Rattle.parts.proofs.labels.expr_labels.Given as goal

abbrev pub invariant-loop-fmt : goal.invariant-loop-fmt
invariant-loop-fmt l = let rs = tree_of l.table in Going (script_of l.src l.table) (λ (s : Stream). s) (is rs Kind.Label) (pump write ▸ put_remaining rs Colon ▸ call Ws) (stream_at rs l.initial.p) (engine l.initial.fmt l.initial.queue l.initial.out) (stream_at rs l.p) (engine l.fmt l.queue l.out)

abbrev pub decreases-loop-fmt : goal.decreases-loop-fmt
decreases-loop-fmt l = length (stream_at (tree_of l.table) l.p).left
