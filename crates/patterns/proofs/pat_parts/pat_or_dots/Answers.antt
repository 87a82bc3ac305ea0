-- `patterns::pat_parts::pat_or_dots` meets its contract. Assumes nothing.
use Rattle.steps.proofs.Rules.{Kind, tree_of, stream_at, is, byte_of, facts_of, either_first, either_second}
use Rattle.patterns.specs.Pattern.{pat_or_dots}
use Rattle.patterns.proofs.pat_parts.pat_or_dots.Goals as goal

pub returns-then-next_is : goal.returns-then-next_is
unfolding pat_or_dots byte_of facts_of
returns-then-next_is c = let rs = tree_of c.args.table.now in rw c.if-next_is.true (either_first (is rs Kind.Pat) (is rs Kind.DotDot) (stream_at rs c.args.p.now) c.next_is.ensures c.if-next_is.true)

pub returns-else-next_is : goal.returns-else-next_is
unfolding pat_or_dots byte_of facts_of
returns-else-next_is c = let rs = tree_of c.args.table.now in either_second (is rs Kind.Pat) (is rs Kind.DotDot) (stream_at rs c.args.p.now) c.next_is.ensures c.if-next_is.false c.next_is-else-next_is.ensures
