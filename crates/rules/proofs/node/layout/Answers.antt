-- `rules::node::layout` meets its contract. Assumes nothing.
use Rattle.steps.proofs.Rules.{refl, length, tree_of, if_so, if_not, arith}
use borrow.Author.Tests.{le-leb, lt-leb}
use Rattle.rules.specs.Rules.{layout}
use Rattle.rules.proofs.node.layout.Goals as goal

pub returns-then-size-k : goal.returns-then-size-k
unfolding layout
returns-then-size-k c = if_so _ _ refl (le-leb (length (tree_of c.args.table.now)) c.args.k.0 (omega (arith, c.size.ensures, c.if-size-k.true))) (c.refuse.ensures.ran _ c.args.queue.now c.args.out.now)

pub returns : goal.returns
unfolding layout
returns c = if_not _ _ refl (lt-leb (length (tree_of c.args.table.now)) c.args.k.0 (omega (arith, c.size.ensures, c.if-size-k.false))) c.rule.ensures
