use Rattle.std.proofs.Common.{◌+◌, ◌*◌}
use Rattle.steps.proofs.Rules.{length, tree_of, script_of, engine, stream_at, remaining_of, turn, listed, suffix, Listing, Counting}
use Rattle.patterns.specs.Pattern.{pat as rule, pat_or_dots, pat_item, key_or_dots, keyed, silent}
use Rattle.steps.specs.declared.remaining.Mark.TheVariants.{Comma}
use Rattle.patterns.proofs.pat.+pat.Given as goal

abbrev pub decreases-colon_pat : goal.decreases-colon_pat
decreases-colon_pat l = 5 * l.depth + 1

abbrev pub decreases-object_item : goal.decreases-object_item
decreases-object_item l = 5 * l.depth + 2

abbrev pub decreases-pat : goal.decreases-pat
decreases-pat l = 5 * l.depth

abbrev pub decreases-pat_array : goal.decreases-pat_array
decreases-pat_array l = 5 * l.depth + 3

abbrev pub decreases-pat_child : goal.decreases-pat_child
decreases-pat_child l = 5 * l.depth + 4

abbrev pub decreases-pat_item : goal.decreases-pat_item
decreases-pat_item l = 5 * l.depth + 1

abbrev pub decreases-pat_object : goal.decreases-pat_object
decreases-pat_object l = 5 * l.depth + 3

abbrev pub decreases-pat_tuple : goal.decreases-pat_tuple
decreases-pat_tuple l = 5 * l.depth + 3

abbrev pub invariant-pat_array-loop-fmt : goal.invariant-pat_array-loop-fmt
invariant-pat_array-loop-fmt l = let rs = tree_of l.table in Listing (script_of l.src l.table) (pat_or_dots rs) (turn rs (listed (pat_item rs (rule rs l.depth))) suffix) (stream_at rs l.initial.p) (engine l.initial.fmt l.initial.queue l.initial.out) (stream_at rs l.p) (engine l.fmt l.queue l.out) (remaining_of Comma l.comma)

abbrev pub decreases-pat_array-loop-fmt : goal.decreases-pat_array-loop-fmt
decreases-pat_array-loop-fmt l = length (stream_at (tree_of l.table) l.p).left

abbrev pub invariant-pat_object-loop-fmt : goal.invariant-pat_object-loop-fmt
invariant-pat_object-loop-fmt l = let rs = tree_of l.table in Listing (script_of l.src l.table) (key_or_dots rs) (turn rs (keyed rs (rule rs l.depth)) silent) (stream_at rs l.initial.p) (engine l.initial.fmt l.initial.queue l.initial.out) (stream_at rs l.p) (engine l.fmt l.queue l.out) (remaining_of Comma l.comma)

abbrev pub decreases-pat_object-loop-fmt : goal.decreases-pat_object-loop-fmt
decreases-pat_object-loop-fmt l = length (stream_at (tree_of l.table) l.p).left

abbrev pub invariant-pat_tuple-loop-fmt : goal.invariant-pat_tuple-loop-fmt
invariant-pat_tuple-loop-fmt l = let rs = tree_of l.table in Counting (script_of l.src l.table) (pat_or_dots rs) (turn rs (listed (pat_item rs (rule rs l.depth))) suffix) (stream_at rs l.initial.p) (engine l.initial.fmt l.initial.queue l.initial.out) (stream_at rs l.p) (engine l.fmt l.queue l.out) (remaining_of Comma l.comma) l.count

abbrev pub decreases-pat_tuple-loop-fmt : goal.decreases-pat_tuple-loop-fmt
decreases-pat_tuple-loop-fmt l = length (stream_at (tree_of l.table) l.p).left
