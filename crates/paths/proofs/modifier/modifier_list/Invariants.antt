use Rattle.steps.proofs.Rules.{true, ℕ, length, tree_of, script_of, engine, stream_at, Seeing}
use Rattle.paths.specs.Attribute.{next_modifier}
use Rattle.paths.proofs.modifier.modifier_list.Given as goal

abbrev pub invariant-loop-p : goal.invariant-loop-p
invariant-loop-p l = let rs = tree_of l.table in Seeing (script_of l.src l.table) (λ (k : ℕ). true) (next_modifier rs) (stream_at rs l.initial.p) (engine l.initial.fmt l.initial.queue l.initial.out) (stream_at rs l.p) (engine l.fmt l.queue l.out) l.any

abbrev pub decreases-loop-p : goal.decreases-loop-p
decreases-loop-p l = length (stream_at (tree_of l.table) l.p).left
