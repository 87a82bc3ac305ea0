-- `bodies::fields::tuple_body` meets its contract. Assumes nothing.
use Rattle.steps.proofs.Rules.{byte_of, facts_of, ◌▹◌, steady}
use Rattle.steps.proofs.Rules.{pumped, parsed, no_item_lem, next_item, item_less, listed_all, keeps}
use Rattle.bodies.specs.Body.{tuple_body}
use Rattle.bodies.proofs.fields.tuple_body.Goals as goal

pub returns : goal.returns
unfolding tuple_body byte_of facts_of
returns c = parsed _ _ c.records_of-p.ensures (c.token.ensures ▹ listed_all _ _ c.next_is.ensures c.loop-fmt-test.false c.loop-fmt.invariant c.close_list.ensures ▹ c.token-2.ensures ▹ steady c.comments.ensures) c.left_over.ensures

pub loop-fmt-init : goal.loop-fmt-init
loop-fmt-init c = no_item_lem

pub loop-fmt-smaller : goal.loop-fmt-smaller
unfolding byte_of facts_of
loop-fmt-smaller c = item_less _ _ _ c.next_is.ensures c.loop-fmt-test.true c.before_item.ensures (pumped _ c.pump-n.ensures c.field.ensures) c.behind_item-comma.ensures c.loop-fmt.invariant

pub loop-fmt-preserved : goal.loop-fmt-preserved
unfolding byte_of facts_of
loop-fmt-preserved c = next_item _ _ _ c.next_is.ensures c.loop-fmt-test.true c.before_item.ensures (pumped _ c.pump-n.ensures c.field.ensures) c.behind_item-comma.ensures c.loop-fmt.invariant

pub shape_of-out : goal.shape_of-out
shape_of-out c = keeps (returns c)
