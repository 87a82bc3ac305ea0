use Rattle.std.proofs.Common.{◌+◌, ◌*◌}
use Rattle.steps.proofs.Rules.{true, ℕ, ◌-◌, length, tree_of, script_of, engine, Stream, stream_at, pump, Going, Kind, is, remaining_of, turn, listed, suffix, Listing}
use Rattle.paths.specs.Path.{path_part, path_generics}
use Rattle.steps.specs.declared.remaining.Mark.TheVariants.{Comma}
use Rattle.paths.specs.Path as rule
use Rattle.paths.proofs.path.+path.Given as goal

abbrev pub decreases-path : goal.decreases-path
decreases-path l = 3 * l.depth

abbrev pub decreases-path_generics : goal.decreases-path_generics
decreases-path_generics l = 3 * l.depth + 1

abbrev pub decreases-path_part : goal.decreases-path_part
decreases-path_part l = 3 * l.depth + 2

abbrev pub invariant-path-loop-p : goal.invariant-path-loop-p
invariant-path-loop-p l = let rs = tree_of l.table in Going (script_of l.src l.table) (λ (s : Stream). s) (λ (k : ℕ). true) (pump (path_part rs (path_generics rs (l.depth - 1)))) (stream_at rs l.initial.p) (engine l.initial.fmt l.initial.queue l.initial.out) (stream_at rs l.p) (engine l.fmt l.queue l.out)

abbrev pub decreases-path-loop-p : goal.decreases-path-loop-p
decreases-path-loop-p l = length (stream_at (tree_of l.table) l.p).left

abbrev pub invariant-path_generics-loop-fmt : goal.invariant-path_generics-loop-fmt
invariant-path_generics-loop-fmt l = let rs = tree_of l.table in Listing (script_of l.src l.table) (is rs Kind.Path) (turn rs (listed (rule.path rs l.depth)) suffix) (stream_at rs l.initial.p) (engine l.initial.fmt l.initial.queue l.initial.out) (stream_at rs l.p) (engine l.fmt l.queue l.out) (remaining_of Comma l.comma)

abbrev pub decreases-path_generics-loop-fmt : goal.decreases-path_generics-loop-fmt
decreases-path_generics-loop-fmt l = length (stream_at (tree_of l.table) l.p).left
