-- `patterns::fn_args::fn_args` meets its contract. Assumes nothing.
use Rattle.steps.proofs.Rules.{byte_of, facts_of, ignore, ◌▹◌}
use Rattle.steps.proofs.Rules.{pumped, parsed, rest_then, no_item_lem, next_item, item_less, listed_all}
use Rattle.steps.specs.declared.remaining.Mark.TheVariants.{Comma}
use Rattle.patterns.specs.Pattern.{no_comma, fn_args}
use Rattle.patterns.proofs.fn_args.fn_args.Goals as goal

pub returns : goal.returns
unfolding fn_args no_comma byte_of facts_of
returns c = parsed _ _ c.records_of-p.ensures (c.token.ensures ▹ rest_then ignore c.take_remaining-first.ensures (c.pass.ensures Comma) ▹ listed_all _ _ c.next_is.ensures c.loop-fmt-test.false c.loop-fmt.invariant c.close_list.ensures ▹ c.token-2.ensures) c.left_over.ensures

pub loop-fmt-init : goal.loop-fmt-init
loop-fmt-init c = no_item_lem

pub loop-fmt-smaller : goal.loop-fmt-smaller
unfolding byte_of facts_of
loop-fmt-smaller c = item_less _ _ _ c.next_is.ensures c.loop-fmt-test.true c.before_item.ensures (pumped _ c.pump-n.ensures c.pat.ensures) c.behind_item-comma.ensures c.loop-fmt.invariant

pub loop-fmt-preserved : goal.loop-fmt-preserved
unfolding byte_of facts_of
loop-fmt-preserved c = next_item _ _ _ c.next_is.ensures c.loop-fmt-test.true c.before_item.ensures (pumped _ c.pump-n.ensures c.pat.ensures) c.behind_item-comma.ensures c.loop-fmt.invariant
