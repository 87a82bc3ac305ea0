-- `parts::spaced::expect_expr` meets its contract. Assumes nothing.
use Rattle.walk.proofs.FlowLaws.{got_so}
use Rattle.parts.proofs.spaced.expect_expr.Goals as goal

pub returns : goal.returns
returns c = got_so _ c.eat_expr-found.ensures c.or_refused.ensures
