-- `parts::spaced::next_expr` meets its contract. Assumes nothing.
use Rattle.parts.specs.Spaced.{is_expr}
use Rattle.steps.proofs.Rules.{Kind, byte_of, either_first, either_second, facts_of, is, stream_at, tree_of}
use Rattle.parts.proofs.spaced.next_expr.Goals as goal

pub returns-then-next_is : goal.returns-then-next_is
unfolding is_expr byte_of facts_of
returns-then-next_is c = let rs = tree_of c.args.table.now in rw c.if-next_is.true (either_first (is rs Kind.Expr) (is rs Kind.ExprSemi) (stream_at rs c.args.p.now) c.next_is.ensures c.if-next_is.true)

pub returns-else-next_is : goal.returns-else-next_is
unfolding is_expr byte_of facts_of
returns-else-next_is c = let rs = tree_of c.args.table.now in either_second (is rs Kind.Expr) (is rs Kind.ExprSemi) (stream_at rs c.args.p.now) c.next_is.ensures c.if-next_is.false c.next_is-else-next_is.ensures
