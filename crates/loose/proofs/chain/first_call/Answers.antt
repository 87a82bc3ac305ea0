-- `loose::chain::first_call` meets its contract. The invariant: from here on the records have the first call that they have behind the head. Assumes nothing.
use Rattle.loose.proofs.ChainLaws.{call_found, call_next, call_none, call_starts}
use Rattle.loose.proofs.ReasonLaws.{goes_behind, within}
use Rattle.text.proofs.Base.{arith}
use Rattle.tree.proofs.Laws.{tree_few}
use Rattle.kinds.specs.Facts.{byte_of, facts_of}
use Rattle.loose.proofs.chain.first_call.Goals as goal

pub loop-at-init : goal.loop-at-init
loop-at-init c = call_starts (within _ c.args.k c.behind-end.ensures)

pub returns-then-kind_at : goal.returns-then-kind_at
unfolding byte_of facts_of
returns-then-kind_at c = rw (c.behind-end.ensures, c.behind-at.ensures) at (call_found c.loop-at.invariant c.loop-at-test.true c.kind_at.ensures c.if-kind_at.true)

pub overflow_add-nth : goal.overflow_add-nth
overflow_add-nth c = omega (arith, c.loop-at.invariant.few, c.loop-at.invariant.inside, c.loop-at-test.true, tree_few c.args.table.now)

pub loop-at-smaller : goal.loop-at-smaller
loop-at-smaller c = omega (arith, goes_behind _ c.loop-at.invariant.inside c.loop-at-test.true c.behind-at-in-loop-at.ensures, c.loop-at-test.true)

pub loop-at-preserved : goal.loop-at-preserved
unfolding byte_of facts_of
loop-at-preserved c = call_next c.loop-at.invariant c.loop-at-test.true c.kind_at.ensures c.if-kind_at.false c.behind-at-in-loop-at.ensures

pub returns : goal.returns
returns c = rw (c.behind-end.ensures, c.behind-at.ensures) at (call_none c.loop-at.invariant c.loop-at-test.false)
