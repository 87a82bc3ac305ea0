use Rattle.steps.proofs.Rules.{length, Kind, tree_of, script_of, engine, stream_at, is, remaining_of, turn, listed, suffix}
use Rattle.steps.proofs.Rules.{Listing}
use Rattle.steps.specs.declared.remaining.Mark.TheVariants.{Comma}
use Rattle.patterns.specs.Pattern.{pat}
use Rattle.patterns.proofs.fn_args.fn_args.Given as goal

abbrev pub invariant-loop-fmt : goal.invariant-loop-fmt
invariant-loop-fmt l = let rs = tree_of l.table in Listing (script_of l.src l.table) (is rs Kind.Pat) (turn rs (listed (pat rs 64)) suffix) (stream_at rs l.initial.p) (engine l.initial.fmt l.initial.queue l.initial.out) (stream_at rs l.p) (engine l.fmt l.queue l.out) (remaining_of Comma l.comma)

abbrev pub decreases-loop-fmt : goal.decreases-loop-fmt
decreases-loop-fmt l = length (stream_at (tree_of l.table) l.p).left
