-- The cycle of `uses::item_use`: each member meets its contract. Assumes nothing.
use Rattle.steps.proofs.Rules.{byte_of, facts_of, tree_of, ◌▹◌, pumped, parsed, no_item_lem, next_item, item_less, listed_all, ◌-◌, starts, goes_on, done, falls, pump_falls, kind_is, kind_other}
use Rattle.uses.specs.Use.{use_group, use_part, use_parts, use_path_rule}
use Rattle.uses.proofs.UseLaws.{grouped, use_none, use_some}
use Rattle.uses.proofs.item_use.+uses.Goals as goal

pub item_use_group-loop-fmt-init : goal.item_use_group-loop-fmt-init
item_use_group-loop-fmt-init t c = no_item_lem

pub item_use_group-loop-fmt-smaller : goal.item_use_group-loop-fmt-smaller
unfolding byte_of facts_of
item_use_group-loop-fmt-smaller t c =
    item_less _ _ _ c.next_is.ensures c.loop-fmt-test.true c.before_item.ensures (pumped _ c.pump-n.ensures c.use_node.ensures) c.behind_item-comma.ensures c.loop-fmt.invariant

pub item_use_group-loop-fmt-preserved : goal.item_use_group-loop-fmt-preserved
unfolding byte_of facts_of
item_use_group-loop-fmt-preserved t c =
    next_item _ _ _ c.next_is.ensures c.loop-fmt-test.true c.before_item.ensures (pumped _ c.pump-n.ensures c.use_node.ensures) c.behind_item-comma.ensures c.loop-fmt.invariant

pub item_use_group-returns : goal.item_use_group-returns
unfolding use_group byte_of facts_of
item_use_group-returns t c =
    parsed _ _ c.records_of-p.ensures (grouped _ _ c.records_of-p.ensures c.is_single-one.ensures (c.brace.ensures ▹ listed_all _ _ c.next_is.ensures c.loop-fmt-test.false c.loop-fmt.invariant c.close_list.ensures ▹ c.brace-2.ensures)) c.left_over.ensures

pub item_use_path-returns-then-depth-eq0 : goal.item_use_path-returns-then-depth-eq0
item_use_path-returns-then-depth-eq0 t c = use_none _ _ c.if-depth-eq0.true c.node_of.ensures c.refuse.ensures

pub item_use_path-loop-p-init : goal.item_use_path-loop-p-init
item_use_path-loop-p-init t c = starts

pub item_use_path-loop-p-smaller : goal.item_use_path-loop-p-smaller
item_use_path-loop-p-smaller t c =
    let rs = tree_of c.args.table.now in falls (pump_falls _ (use_part rs (use_group rs (c.args.depth - 1)))) c.before_as.ensures c.loop-p-test.true (pumped _ c.pump-n.ensures c.use_part.ensures)

pub item_use_path-loop-p-preserved : goal.item_use_path-loop-p-preserved
item_use_path-loop-p-preserved t c =
    let rs = tree_of c.args.table.now in goes_on (pump_falls _ (use_part rs (use_group rs (c.args.depth - 1)))) c.before_as.ensures c.loop-p-test.true (pumped _ c.pump-n.ensures c.use_part.ensures) c.loop-p.invariant

pub item_use_path-returns : goal.item_use_path-returns
unfolding use_path_rule use_parts
item_use_path-returns t c = use_some _ _ c.if-depth-eq0.false (done c.before_as.ensures c.loop-p-test.false c.loop-p.invariant ▹ c.as_name.ensures)

pub use_node-returns : goal.use_node-returns
use_node-returns t c = parsed _ _ c.records_of-p.ensures c.item_use_path.ensures c.left_over.ensures

pub use_part-returns-then-kind_at : goal.use_part-returns-then-kind_at
unfolding use_part byte_of facts_of
use_part-returns-then-kind_at t c = kind_is _ _ _ _ c.kind_at.ensures c.if-kind_at.true c.item_use_group.ensures

pub use_part-returns : goal.use_part-returns
unfolding use_part byte_of facts_of
use_part-returns t c = kind_other _ _ _ _ c.kind_at.ensures c.if-kind_at.false c.write_owned.ensures
