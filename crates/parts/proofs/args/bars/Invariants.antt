use Rattle.steps.proofs.Rules.{Kind, Listing, engine, fmt, is, length, listed}
use Rattle.steps.proofs.Rules.{remaining_of, script_of, stream_at, suffix, tree_of, turn}
use Rattle.steps.specs.declared.remaining.Mark.TheVariants.{Comma}
use Rattle.patterns.specs.Pattern.{pat}
use Rattle.parts.proofs.args.bars.Given as goal

abbrev pub invariant-loop-fmt : goal.invariant-loop-fmt
invariant-loop-fmt l = let rs = tree_of l.table in Listing (script_of l.src l.table) (is rs Kind.Pat) (turn rs (listed (pat rs 64)) suffix) (stream_at rs l.initial.p) (engine l.initial.fmt l.initial.queue l.initial.out) (stream_at rs l.p) (engine l.fmt l.queue l.out) (remaining_of Comma l.comma)

abbrev pub decreases-loop-fmt : goal.decreases-loop-fmt
decreases-loop-fmt l = length (stream_at (tree_of l.table) l.p).left
