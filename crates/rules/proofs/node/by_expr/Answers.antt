-- `rules::node::by_expr` meets its contract. Assumes nothing.
use Rattle.rules.specs.Rules.{by_expr}
use Rattle.steps.proofs.Rules.{if_not, if_so, refl}
use borrow.Author.Tests.{lt-ltb, le-ltb}
use Rattle.rules.proofs.node.by_expr.Goals as goal

pub returns-then-kind-lt128 : goal.returns-then-kind-lt128
unfolding by_expr
returns-then-kind-lt128 c = if_so _ _ refl (lt-ltb _ _ c.if-kind-lt128.true) (c.refuse.ensures.ran _ _ _)

pub returns : goal.returns
unfolding by_expr
returns c = if_not _ _ refl (le-ltb _ _ c.if-kind-lt128.false) c.inner.ensures
