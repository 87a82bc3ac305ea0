-- The cycle of `paths::path`: each member meets its contract. Assumes nothing.
use Rattle.steps.proofs.Rules.{◌-◌, tree_of, pumped, parsed, starts, goes_on, done, falls, pump_falls, byte_of, facts_of, ◌▹◌, no_item_lem, next_item, item_less, listed_all, kind_is, kind_other}
use Rattle.paths.specs.Path.{path_part, path_rule, path_generics, generics_rule}
use Rattle.paths.proofs.PathLaws.{path_none, path_some}
use Rattle.paths.proofs.path.+path.Goals as goal

pub path-returns-then-depth-eq0 : goal.path-returns-then-depth-eq0
path-returns-then-depth-eq0 t c = path_none _ _ c.if-depth-eq0.true c.refuse.ensures

pub path-loop-p-init : goal.path-loop-p-init
path-loop-p-init t c = starts

pub path-loop-p-smaller : goal.path-loop-p-smaller
path-loop-p-smaller t c =
    let rs = tree_of c.args.table.now in falls (pump_falls _ (path_part rs (path_generics rs (c.args.depth - 1)))) c.has_next.ensures c.loop-p-test.true (pumped _ c.pump-n.ensures c.path_part.ensures)

pub path-loop-p-preserved : goal.path-loop-p-preserved
path-loop-p-preserved t c =
    let rs = tree_of c.args.table.now in goes_on (pump_falls _ (path_part rs (path_generics rs (c.args.depth - 1)))) c.has_next.ensures c.loop-p-test.true (pumped _ c.pump-n.ensures c.path_part.ensures) c.loop-p.invariant

pub path-returns : goal.path-returns
unfolding path_rule
path-returns t c =
    path_some _ _ _ c.if-depth-eq0.false (parsed _ _ c.records_of-p.ensures (done c.has_next.ensures c.loop-p-test.false c.loop-p.invariant) c.left_over.ensures)

pub path_generics-loop-fmt-init : goal.path_generics-loop-fmt-init
path_generics-loop-fmt-init t c = no_item_lem

pub path_generics-loop-fmt-smaller : goal.path_generics-loop-fmt-smaller
unfolding byte_of facts_of
path_generics-loop-fmt-smaller t c =
    item_less _ _ _ c.next_is.ensures c.loop-fmt-test.true c.before_item.ensures (pumped _ c.pump-n.ensures c.path.ensures) c.behind_item-comma.ensures c.loop-fmt.invariant

pub path_generics-loop-fmt-preserved : goal.path_generics-loop-fmt-preserved
unfolding byte_of facts_of
path_generics-loop-fmt-preserved t c =
    next_item _ _ _ c.next_is.ensures c.loop-fmt-test.true c.before_item.ensures (pumped _ c.pump-n.ensures c.path.ensures) c.behind_item-comma.ensures c.loop-fmt.invariant

pub path_generics-returns : goal.path_generics-returns
unfolding path_generics generics_rule byte_of facts_of
path_generics-returns t c =
    parsed _ _ c.records_of-p.ensures (c.token.ensures ▹ listed_all _ _ c.next_is.ensures c.loop-fmt-test.false c.loop-fmt.invariant c.close_list.ensures ▹ c.token-2.ensures) c.left_over.ensures

pub path_part-returns-then-kind_at : goal.path_part-returns-then-kind_at
unfolding path_part byte_of facts_of
path_part-returns-then-kind_at t c = kind_is _ _ _ _ c.kind_at.ensures c.if-kind_at.true c.path_generics.ensures

pub path_part-returns : goal.path_part-returns
unfolding path_part byte_of facts_of
path_part-returns t c = kind_other _ _ _ _ c.kind_at.ensures c.if-kind_at.false c.write_owned.ensures
