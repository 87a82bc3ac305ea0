-- `parts::args::bars` meets its contract. Assumes nothing.
use Rattle.parts.specs.Args.{barred}
use Rattle.steps.proofs.Rules.{◌▹◌, byte_of, facts_of, fmt, is, item_less, keeps, listed, listed_all, next_item}
use Rattle.steps.proofs.Rules.{next_not, next_so, no_item_lem, parsed, pumped, turn}
use Rattle.patterns.specs.Pattern.{pat}
use Rattle.parts.proofs.args.bars.Goals as goal

pub returns : goal.returns
unfolding barred byte_of facts_of
returns c = parsed _ _ c.records_of-p.ensures (next_not _ _ _ c.next_is.ensures c.if-next_is.false (c.token.ensures ▹ listed_all _ _ c.next_is-in-loop-fmt.ensures c.loop-fmt-test.false c.loop-fmt.invariant c.close_list.ensures ▹ c.token-2.ensures)) c.left_over-2.ensures

pub returns-then-next_is : goal.returns-then-next_is
unfolding barred byte_of facts_of
returns-then-next_is c = parsed _ _ c.records_of-p.ensures (next_so _ _ _ c.next_is.ensures c.if-next_is.true c.any.ensures) c.left_over.ensures

pub loop-fmt-init : goal.loop-fmt-init
loop-fmt-init c = no_item_lem

pub loop-fmt-smaller : goal.loop-fmt-smaller
unfolding byte_of facts_of
loop-fmt-smaller c = item_less _ _ _ c.next_is-in-loop-fmt.ensures c.loop-fmt-test.true c.before_item.ensures (pumped _ c.pump-n.ensures c.pat.ensures) c.behind_item-comma.ensures c.loop-fmt.invariant

pub loop-fmt-preserved : goal.loop-fmt-preserved
unfolding byte_of facts_of
loop-fmt-preserved c = next_item _ _ _ c.next_is-in-loop-fmt.ensures c.loop-fmt-test.true c.before_item.ensures (pumped _ c.pump-n.ensures c.pat.ensures) c.behind_item-comma.ensures c.loop-fmt.invariant

pub shape_of-out : goal.shape_of-out
shape_of-out c = keeps (returns c)
