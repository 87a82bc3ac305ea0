-- `parts::spaced::eat_expr` meets its contract. Assumes nothing.
use Rattle.steps.proofs.Rules.{stream_at, tree_of}
use Rattle.walk.proofs.StreamLaws.{took_if, took_not}
use Rattle.parts.proofs.spaced.eat_expr.Goals as goal

pub returns-then-next_expr : goal.returns-then-next_expr
returns-then-next_expr c = took_if _ (stream_at (tree_of c.args.table.now) c.args.p.now) c.next_expr.ensures c.if-next_expr.true c.take.ensures

pub returns : goal.returns
returns c = took_not _ (stream_at (tree_of c.args.table.now) c.args.p.now) c.next_expr.ensures c.if-next_expr.false
