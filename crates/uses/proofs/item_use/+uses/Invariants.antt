use Rattle.std.proofs.Common.{◌+◌, ◌*◌}
use Rattle.steps.proofs.Rules.{length, Kind, tree_of, script_of, engine, stream_at, is, parse, remaining_of, turn, listed, suffix, Listing, ℕ, not, ◌-◌, Stream, pump, Going}
use Rattle.steps.specs.declared.remaining.Mark.TheVariants.{Comma}
use Rattle.uses.specs.Use.{use_path, use_group, use_part}
use Rattle.uses.proofs.item_use.+uses.Given as goal

abbrev pub decreases-item_use_group : goal.decreases-item_use_group
decreases-item_use_group l = 4 * l.depth + 2

abbrev pub decreases-item_use_path : goal.decreases-item_use_path
decreases-item_use_path l = 4 * l.depth

abbrev pub decreases-use_node : goal.decreases-use_node
decreases-use_node l = 4 * l.depth + 1

abbrev pub decreases-use_part : goal.decreases-use_part
decreases-use_part l = 4 * l.depth + 3

abbrev pub invariant-item_use_group-loop-fmt : goal.invariant-item_use_group-loop-fmt
invariant-item_use_group-loop-fmt l = let rs = tree_of l.table in Listing (script_of l.src l.table) (is rs Kind.ItemUsePath) (turn rs (listed (parse rs (use_path rs l.depth))) suffix) (stream_at rs l.initial.p) (engine l.initial.fmt l.initial.queue l.initial.out) (stream_at rs l.p) (engine l.fmt l.queue l.out) (remaining_of Comma l.comma)

abbrev pub decreases-item_use_group-loop-fmt : goal.decreases-item_use_group-loop-fmt
decreases-item_use_group-loop-fmt l = length (stream_at (tree_of l.table) l.p).left

abbrev pub invariant-item_use_path-loop-p : goal.invariant-item_use_path-loop-p
invariant-item_use_path-loop-p l = let rs = tree_of l.table in Going (script_of l.src l.table) (λ (s : Stream). s) (λ (k : ℕ). not (is rs Kind.As k)) (pump (use_part rs (use_group rs (l.depth - 1)))) (stream_at rs l.initial.p) (engine l.initial.fmt l.initial.queue l.initial.out) (stream_at rs l.p) (engine l.fmt l.queue l.out)

abbrev pub decreases-item_use_path-loop-p : goal.decreases-item_use_path-loop-p
decreases-item_use_path-loop-p l = length (stream_at (tree_of l.table) l.p).left
