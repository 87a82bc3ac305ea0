-- The cycle of `exprs::Lay`: each member meets its contract. Assumes nothing.
use Rattle.exprs.proofs.LayLaws.{deep, too_deep, operands_fall, decl_not, decl_so, head_block, head_const, head_none, in_group, not_grouped, inner_block, lead_of_lem, loop_of_lem, range_of_lem}
use Rattle.exprs.specs.Arms.{arm, to, guard, cases, matches, arms, select}
use Rattle.exprs.specs.Lay.{below, lay, expr, flow, inner}
use Rattle.steps.proofs.Rules.{◌▹◌, arith, byte_of, facts_of, rules, parsed, pumped, ℕ, Kind, done, falls, goes_on, is, script_of, starts, expected, steady, next_not, next_so, ◌∙◌, kind_is, kind_other, sym, item_less, listed_all, next_item, no_item_lem, refl, remaining_of, step_not, step_so, if_not, if_so, ne_eqb, nothing_made, ap, eqb, all_seen, last_done, next_seen, seen_less, items_done, next_turn, rests_with, turn_less, pump_falls, counted, next_counted, none_counted}
use Rattle.exprs.specs.Operand.{binary, assign, group, lead_of, range_of}
use Rattle.exprs.specs.Rule.{Rule}
use Rattle.exprs.specs.Block.{block, stmt, stmts}
use Rattle.exprs.proofs.StmtLaws.{body_of, all_said, next_said, none_said, said_less, statement_of}
use Rattle.exprs.proofs.ChainLaws.{all_linked, chain_of, left_few, link_less, next_link, no_link}
use Rattle.exprs.specs.Control.{condition, behind_block, else_ifs, elses, ifs, lets, loop_of, tail}
use Rattle.parts.proofs.Laws.{expr_met, guard_met}
use Rattle.exprs.specs.Item.{item_rule, item}
use Rattle.exprs.proofs.ListLaws.{exprs_of, loose_entry_lem, loose_falls, behind_name_lem, keyed_item, object_of, row_falls, rows_fall}
use Rattle.exprs.specs.List.{compact, loose, keyed, row, pair, rows, tuple}
use Rattle.steps.specs.declared.remaining.Mark.TheVariants.{Comma}
use Rattle.exprs.specs.Chain.{index, link}
use Rattle.text.proofs.Base.{eq-eqb}
use Rattle.exprs.proofs.ArmLaws.{cases_take, comma_of, match_arm_lem, arms_fall, select_arm_lem}
use Rattle.patterns.proofs.PatLaws.{object_ends, tuple_ends}
use Rattle.patterns.specs.Pattern.{silent}
use Rattle.tree.proofs.Laws.{tree_few}
use Rattle.exprs.proofs.Lay.+lay.Goals as goal

pub arm-returns-then-depth-eq0 : goal.arm-returns-then-depth-eq0
arm-returns-then-depth-eq0 t c = too_deep _ _ _ c.if-depth-eq0.true c.refuse.ensures

pub arm-overflow_sub-depth-2 : goal.arm-overflow_sub-depth-2
arm-overflow_sub-depth-2 t c = search (rules, c.if-depth-eq0.false)

pub arm-returns : goal.arm-returns
unfolding below arm to byte_of facts_of
arm-returns t c =
    deep _ _ _ _ c.if-depth-eq0.false (parsed _ _ c.records_of-p.ensures (c.arm_pat.ensures ▹ (rw (← c.guard_kind-kind.ensures) c.guard.ensures) ▹ c.between.ensures ▹ pumped _ c.pump-n.ensures c.expr.ensures) c.left_over.ensures)

pub binary-loop-fmt-init : goal.binary-loop-fmt-init
binary-loop-fmt-init t c = starts

pub binary-loop-fmt-smaller : goal.binary-loop-fmt-smaller
unfolding byte_of facts_of
binary-loop-fmt-smaller t c =
    let x = script_of c.args.src.now c.args.table.now in falls (operands_fall x.tree (lay x c.args.depth Rule.Inner)) c.next_is.ensures c.loop-fmt-test.true (c.between.ensures ▹ pumped _ c.pump-n-in-loop-fmt.ensures c.inner-in-loop-fmt.ensures)

pub binary-loop-fmt-preserved : goal.binary-loop-fmt-preserved
unfolding byte_of facts_of
binary-loop-fmt-preserved t c =
    let x = script_of c.args.src.now c.args.table.now in goes_on (operands_fall x.tree (lay x c.args.depth Rule.Inner)) c.next_is.ensures c.loop-fmt-test.true (c.between.ensures ▹ pumped _ c.pump-n-in-loop-fmt.ensures c.inner-in-loop-fmt.ensures) c.loop-fmt.invariant

pub binary-returns : goal.binary-returns
unfolding binary byte_of facts_of
binary-returns t c =
    parsed _ _ c.records_of-p.ensures (pumped _ c.pump-n.ensures c.inner.ensures ▹ done c.next_is.ensures c.loop-fmt-test.false c.loop-fmt.invariant) c.left_over.ensures

pub block-returns-then-depth-eq0 : goal.block-returns-then-depth-eq0
block-returns-then-depth-eq0 t c = too_deep _ _ _ c.if-depth-eq0.true c.refuse.ensures

pub block-returns : goal.block-returns
unfolding below block byte_of facts_of
block-returns t c =
    deep _ _ _ _ c.if-depth-eq0.false (parsed _ _ c.records_of-p.ensures (c.token.ensures ▹ expected _ _ _ c.expect-n.ensures c.body.ensures ▹ c.token-2.ensures) c.left_over.ensures)

pub body-returns-then-depth-eq0 : goal.body-returns-then-depth-eq0
body-returns-then-depth-eq0 t c = too_deep _ _ _ c.if-depth-eq0.true c.refuse.ensures

pub body-returns : goal.body-returns
unfolding below
body-returns t c =
    deep _ _ _ _ c.if-depth-eq0.false (parsed _ _ c.records_of-p.ensures (body_of _ _ c.is_spread-spread.ensures (steady c.enter.ensures ▹ c.stmts.ensures ▹ steady c.leave.ensures)) c.left_over.ensures)

pub chain-loop-p-init : goal.chain-loop-p-init
chain-loop-p-init t c = (no_link _ _ _, left_few _ _)

pub chain-overflow_add-n : goal.chain-overflow_add-n
chain-overflow_add-n t c = omega (arith, c.loop-p.invariant.1)

pub chain-loop-p-smaller : goal.chain-loop-p-smaller
chain-loop-p-smaller t c =
    let x = script_of c.args.src.now c.args.table.now in link_less x (lay x c.args.depth) _ c.loop-p.n c.has_next.ensures c.loop-p-test.true c.pump-link.ensures c.break_link.ensures c.link.ensures

pub chain-loop-p-preserved : goal.chain-loop-p-preserved
chain-loop-p-preserved t c =
    let x = script_of c.args.src.now c.args.table.now in let less = link_less x (lay x c.args.depth) _ c.loop-p.n c.has_next.ensures c.loop-p-test.true c.pump-link.ensures c.break_link.ensures c.link.ensures in (next_link x (lay x c.args.depth) _ c.loop-p.n c.has_next.ensures c.loop-p-test.true c.pump-link.ensures c.break_link.ensures c.link.ensures c.loop-p.invariant.0, omega (arith, c.loop-p.invariant.1))

pub chain-returns : goal.chain-returns
chain-returns t c =
    parsed _ _ c.records_of-p.ensures (chain_of _ (tree_few c.args.table.now) c.records_of-p.ensures c.pump-head.ensures c.chain_from-from.ensures (pumped _ c.pump-head.ensures c.inner.ensures ▹ all_linked _ _ _ c.has_next.ensures c.loop-p-test.false c.loop-p.invariant.0 c.end_chain.ensures)) c.left_over.ensures

pub cond-returns-then-next_is : goal.cond-returns-then-next_is
unfolding condition byte_of facts_of
cond-returns-then-next_is t c = c.word.ensures ▹ next_so _ _ _ c.next_is.ensures c.if-next_is.true (pumped _ c.pump-n.ensures c.let_.ensures) ▹ steady c.ws.ensures

pub cond-returns : goal.cond-returns
unfolding condition byte_of facts_of
cond-returns t c = c.word.ensures ▹ next_not _ _ _ c.next_is.ensures c.if-next_is.false (expr_met _ _ c.expect_expr-n.ensures c.expr.ensures) ▹ steady c.ws-2.ensures

pub decl-returns-then-depth-eq0 : goal.decl-returns-then-depth-eq0
decl-returns-then-depth-eq0 t c = too_deep _ _ _ c.if-depth-eq0.true c.refuse.ensures

pub decl-overflow_sub-depth : goal.decl-overflow_sub-depth
decl-overflow_sub-depth t c = search (rules, c.if-depth-eq0.false)

pub decl-returns-then-kind : goal.decl-returns-then-kind
unfolding below item_rule byte_of facts_of
decl-returns-then-kind t c =
    deep _ _ _ _ c.if-depth-eq0.false (decl_so _ _ c.kind_at-kind.ensures c.is_decl.ensures c.if-is_decl.true (parsed _ _ c.records_of-p.ensures (c.modifiers.ensures ▹ c.item_head.ensures ▹ head_const _ c.if-kind.true (pumped _ c.pump-n.ensures c.expr.ensures)) c.left_over.ensures))

pub decl-overflow_sub-depth-then-asks_block : goal.decl-overflow_sub-depth-then-asks_block
decl-overflow_sub-depth-then-asks_block t c = search (rules, c.if-depth-eq0.false)

pub decl-returns-then-asks_block : goal.decl-returns-then-asks_block
unfolding below item_rule byte_of facts_of
decl-returns-then-asks_block t c =
    deep _ _ _ _ c.if-depth-eq0.false (decl_so _ _ c.kind_at-kind.ensures c.is_decl.ensures c.if-is_decl.true (parsed _ _ c.records_of-p.ensures (c.modifiers.ensures ▹ c.item_head.ensures ▹ head_block _ c.if-kind.false c.asks_block.ensures c.if-asks_block.true (steady c.before_block.ensures ▹ expected _ _ _ c.expect-n.ensures c.block.ensures)) c.left_over-then-asks_block.ensures))

pub decl-returns-then-is_decl : goal.decl-returns-then-is_decl
unfolding below item_rule byte_of facts_of
decl-returns-then-is_decl t c =
    deep _ _ _ _ c.if-depth-eq0.false (decl_so _ _ c.kind_at-kind.ensures c.is_decl.ensures c.if-is_decl.true (parsed _ _ c.records_of-p.ensures (c.modifiers.ensures ▹ c.item_head.ensures ▹ head_none _ c.if-kind.false c.asks_block.ensures c.if-asks_block.false (steady c.no_block.ensures)) c.left_over-then-is_decl.ensures))

pub decl-returns : goal.decl-returns
unfolding below
decl-returns t c = deep _ _ _ _ c.if-depth-eq0.false (decl_not _ _ c.kind_at-kind.ensures c.is_decl.ensures c.if-is_decl.false (c.no_item.ensures.ran _ _ _))

pub else_-returns-then-depth-eq0 : goal.else_-returns-then-depth-eq0
else_-returns-then-depth-eq0 t c = too_deep _ _ _ c.if-depth-eq0.true c.refuse.ensures

pub else_-returns-in-204 : goal.else_-returns-in-204
unfolding below behind_block elses byte_of facts_of
else_-returns-in-204 t c =
    deep _ _ _ _ c.if-depth-eq0.false (kind_is _ _ _ _ c.kind_at-kind.ensures c.in-204.is (parsed _ _ c.records_of-p.ensures (c.between.ensures ▹ expected _ _ _ c.expect-n.ensures c.block.ensures) c.left_over.ensures))

pub else_-returns-in-205 : goal.else_-returns-in-205
unfolding below behind_block else_ifs byte_of facts_of
else_-returns-in-205 t c =
    deep _ _ _ _ c.if-depth-eq0.false (rw (sym c.kind_at-kind.ensures ∙ c.in-205.is) (parsed _ _ c.records_of-p-in-205.ensures (c.between-in-205.ensures ▹ c.cond.ensures ▹ expected _ _ _ c.expect-n-in-205.ensures c.block-in-205.ensures) c.left_over-in-205.ensures))

pub else_-returns-in_default : goal.else_-returns-in_default
unfolding below behind_block byte_of facts_of
else_-returns-in_default t c =
    deep _ _ _ _ c.if-depth-eq0.false (kind_other _ _ _ _ c.kind_at-kind.ensures c.in_default.in_default-own.rest.0.1 (kind_other _ _ _ _ c.kind_at-kind.ensures c.in_default.in_default-own.rest.1 c.write_owned.ensures))

pub expr-returns-then-depth-eq0 : goal.expr-returns-then-depth-eq0
expr-returns-then-depth-eq0 t c = too_deep _ _ _ c.if-depth-eq0.true c.refuse.ensures

pub expr-returns-then-grouped : goal.expr-returns-then-grouped
unfolding below expr
expr-returns-then-grouped t c =
    in_group _ _ _ c.if-grouped.true (deep _ _ _ _ c.if-depth-eq0.false (parsed _ _ c.records_of-p.ensures (steady c.comments.ensures ▹ (c.before_expr.ensures ▹ pumped _ c.pump-n.ensures c.inner.ensures) ▹ steady c.comments-then-grouped.ensures) c.left_over.ensures))

pub expr-returns : goal.expr-returns
unfolding below expr
expr-returns t c =
    not_grouped _ _ _ c.if-grouped.false (deep _ _ _ _ c.if-depth-eq0.false (parsed _ _ c.records_of-p.ensures (c.before_expr-2.ensures ▹ pumped _ c.pump-n-2.ensures c.inner-2.ensures) c.left_over-2.ensures))

pub exprs-returns-then-loose : goal.exprs-returns-then-loose
exprs-returns-then-loose t c =
    parsed _ _ c.records_of-p.ensures (exprs_of _ c.records_of-p.ensures _ _ c.children_of.ensures c.goes_loose-loose.ensures (c.token.ensures ▹ step_so _ _ refl c.if-loose.true c.loose.ensures ▹ c.token-then-loose.ensures)) c.left_over.ensures

pub exprs-loop-fmt-init : goal.exprs-loop-fmt-init
exprs-loop-fmt-init t c = no_item_lem

pub exprs-loop-fmt-smaller : goal.exprs-loop-fmt-smaller
exprs-loop-fmt-smaller t c =
    item_less _ _ _ c.next_expr.ensures c.loop-fmt-test.true c.before_item.ensures (pumped _ c.pump-n.ensures c.expr.ensures) c.behind_item-comma.ensures c.loop-fmt.invariant

pub exprs-loop-fmt-preserved : goal.exprs-loop-fmt-preserved
exprs-loop-fmt-preserved t c =
    next_item _ _ _ c.next_expr.ensures c.loop-fmt-test.true c.before_item.ensures (pumped _ c.pump-n.ensures c.expr.ensures) c.behind_item-comma.ensures c.loop-fmt.invariant

pub exprs-returns : goal.exprs-returns
unfolding compact
exprs-returns t c =
    parsed _ _ c.records_of-p.ensures (exprs_of _ c.records_of-p.ensures _ _ c.children_of.ensures c.goes_loose-loose.ensures (c.token.ensures ▹ step_not _ _ refl c.if-loose.false (listed_all _ _ c.next_expr.ensures c.loop-fmt-test.false c.loop-fmt.invariant c.close_list.ensures) ▹ c.token-2.ensures)) c.left_over-2.ensures

pub flow-returns-then-is_range : goal.flow-returns-then-is_range
unfolding flow
flow-returns-then-is_range t c = if_so _ _ c.is_range.ensures c.if-is_range.true c.range.ensures

pub flow-returns-then-is_loop : goal.flow-returns-then-is_loop
unfolding flow
flow-returns-then-is_loop t c = if_not _ _ c.is_range.ensures c.if-is_range.false (if_so _ _ c.is_loop.ensures c.if-is_loop.true c.loops.ensures)

pub flow-returns-then-is_lead : goal.flow-returns-then-is_lead
unfolding flow
flow-returns-then-is_lead t c =
    if_not _ _ c.is_range.ensures c.if-is_range.false (if_not _ _ c.is_loop.ensures c.if-is_loop.false (if_so _ _ c.is_lead.ensures c.if-is_lead.true c.lead.ensures))

pub flow-returns-in-203 : goal.flow-returns-in-203
unfolding flow byte_of facts_of
flow-returns-in-203 t c =
    if_not _ _ c.is_range.ensures c.if-is_range.false (if_not _ _ c.is_loop.ensures c.if-is_loop.false (if_not _ _ c.is_lead.ensures c.if-is_lead.false (rw c.in-203.is c.if_.ensures)))

pub flow-returns-in-214 : goal.flow-returns-in-214
unfolding flow byte_of facts_of
flow-returns-in-214 t c =
    if_not _ _ c.is_range.ensures c.if-is_range.false (if_not _ _ c.is_loop.ensures c.if-is_loop.false (if_not _ _ c.is_lead.ensures c.if-is_lead.false (rw c.in-214.is c.select.ensures)))

pub flow-returns-in-216 : goal.flow-returns-in-216
unfolding flow byte_of facts_of
flow-returns-in-216 t c =
    if_not _ _ c.is_range.ensures c.if-is_range.false (if_not _ _ c.is_loop.ensures c.if-is_loop.false (if_not _ _ c.is_lead.ensures c.if-is_lead.false (rw c.in-216.is c.match_.ensures)))

pub flow-returns-in-194 : goal.flow-returns-in-194
unfolding flow assign byte_of facts_of
flow-returns-in-194 t c =
    if_not _ _ c.is_range.ensures c.if-is_range.false (if_not _ _ c.is_loop.ensures c.if-is_loop.false (if_not _ _ c.is_lead.ensures c.if-is_lead.false (rw c.in-194.is (parsed _ _ c.records_of-p.ensures (expr_met _ _ c.expect_expr-n.ensures c.expr.ensures ▹ c.between.ensures ▹ expr_met _ _ c.expect_expr-n-in-194.ensures c.expr-in-194.ensures) c.left_over.ensures))))

pub flow-returns-in_default : goal.flow-returns-in_default
unfolding flow byte_of facts_of
flow-returns-in_default t c =
    let n = c.in_default.in_default-own.rest in if_not _ _ c.is_range.ensures c.if-is_range.false (if_not _ _ c.is_loop.ensures c.if-is_loop.false (if_not _ _ c.is_lead.ensures c.if-is_lead.false (rw (ne_eqb _ _ n.0.0.0.1, ne_eqb _ _ n.0.0.1, ne_eqb _ _ n.0.1, ne_eqb _ _ n.1) c.lone.ensures)))

pub group-returns-then-next_expr : goal.group-returns-then-next_expr
unfolding group byte_of facts_of
group-returns-then-next_expr t c =
    parsed _ _ c.records_of-p.ensures (c.group_end.ensures ▹ next_so _ _ _ c.next_expr.ensures c.if-next_expr.true (pumped _ c.pump-n.ensures c.expr.ensures) ▹ c.group_end-then-next_expr.ensures) c.left_over.ensures

pub group-returns : goal.group-returns
unfolding group byte_of facts_of
group-returns t c =
    parsed _ _ c.records_of-p.ensures (c.group_end.ensures ▹ next_not _ _ _ c.next_expr.ensures c.if-next_expr.false (steady c.comments.ensures) ▹ c.group_end-2.ensures) c.left_over-2.ensures

pub guard-returns-then-next_is : goal.guard-returns-then-next_is
unfolding guard
guard-returns-then-next_is t c = next_so _ _ _ c.next_is.ensures c.if-next_is.true (c.between.ensures ▹ guard_met _ _ _ c.take_guard-n.ensures c.expr.ensures)

pub guard-returns-else-next_is : goal.guard-returns-else-next_is
unfolding guard
guard-returns-else-next_is t c = next_not _ _ _ c.next_is.ensures c.if-next_is.false (steady nothing_made)

pub if_-returns-then-next_is : goal.if_-returns-then-next_is
unfolding ifs byte_of facts_of
if_-returns-then-next_is t c =
    parsed _ _ c.records_of-p.ensures (c.cond.ensures ▹ next_so _ _ _ c.next_is.ensures c.if-next_is.true (pumped _ c.pump-n.ensures c.block.ensures) ▹ c.tail.ensures) c.left_over.ensures

pub if_-returns : goal.if_-returns
unfolding ifs byte_of facts_of
if_-returns t c =
    parsed _ _ c.records_of-p.ensures (c.cond.ensures ▹ next_not _ _ _ c.next_is.ensures c.if-next_is.false (steady c.lit.ensures) ▹ c.tail-2.ensures) c.left_over-2.ensures

pub inner-returns-then-depth-eq0 : goal.inner-returns-then-depth-eq0
inner-returns-then-depth-eq0 t c = too_deep _ _ _ c.if-depth-eq0.true c.refuse.ensures

pub inner-returns-in-129 : goal.inner-returns-in-129
unfolding byte_of facts_of
inner-returns-in-129 t c = inner_block _ _ _ c.kind_at-kind.ensures c.in-129.is c.block.ensures

pub inner-returns-in-226 : goal.inner-returns-in-226
unfolding below inner byte_of facts_of
inner-returns-in-226 t c = deep _ _ _ _ c.if-depth-eq0.false (rw (sym c.kind_at-kind.ensures ∙ c.in-226.is) c.chain.ensures)

pub inner-returns-in-195 : goal.inner-returns-in-195
unfolding below inner byte_of facts_of
inner-returns-in-195 t c = deep _ _ _ _ c.if-depth-eq0.false (rw (sym c.kind_at-kind.ensures ∙ c.in-195.is) c.exprs.ensures)

pub inner-returns-in-196 : goal.inner-returns-in-196
unfolding below inner byte_of facts_of
inner-returns-in-196 t c = deep _ _ _ _ c.if-depth-eq0.false (rw (sym c.kind_at-kind.ensures ∙ c.in-196.is) c.tuple.ensures)

pub inner-returns-in-197 : goal.inner-returns-in-197
unfolding below inner byte_of facts_of
inner-returns-in-197 t c = deep _ _ _ _ c.if-depth-eq0.false (rw (sym c.kind_at-kind.ensures ∙ c.in-197.is) c.object.ensures)

pub inner-returns-in-198 : goal.inner-returns-in-198
unfolding below inner byte_of facts_of
inner-returns-in-198 t c = deep _ _ _ _ c.if-depth-eq0.false (rw (sym c.kind_at-kind.ensures ∙ c.in-198.is) c.binary.ensures)

pub inner-returns-in-201 : goal.inner-returns-in-201
unfolding below inner byte_of facts_of
inner-returns-in-201 t c = deep _ _ _ _ c.if-depth-eq0.false (rw (sym c.kind_at-kind.ensures ∙ c.in-201.is) c.group.ensures)

pub inner-returns-in-202 : goal.inner-returns-in-202
unfolding below inner byte_of facts_of
inner-returns-in-202 t c = deep _ _ _ _ c.if-depth-eq0.false (rw (sym c.kind_at-kind.ensures ∙ c.in-202.is) c.group-in-202.ensures)

pub inner-returns-in_default : goal.inner-returns-in_default
unfolding below inner byte_of facts_of
inner-returns-in_default t c =
    let n = c.in_default.in_default-own.rest in deep _ _ _ _ c.if-depth-eq0.false (rw (sym c.kind_at-kind.ensures, ne_eqb _ _ n.0.0.0.0.0.0.0.1, ne_eqb _ _ n.0.0.0.0.0.0.1, ne_eqb _ _ n.0.0.0.0.0.1, ne_eqb _ _ n.0.0.0.0.1, ne_eqb _ _ n.0.0.0.1, ne_eqb _ _ n.0.0.1, ne_eqb _ _ n.0.1, ne_eqb _ _ n.1) c.flow.ensures)

pub item-returns-then-depth-eq0 : goal.item-returns-then-depth-eq0
item-returns-then-depth-eq0 t c = too_deep _ _ _ c.if-depth-eq0.true c.refuse.ensures

pub item-returns : goal.item-returns
unfolding below item
item-returns t c =
    deep _ _ _ _ c.if-depth-eq0.false (parsed _ _ c.records_of-p.ensures (c.attributes.ensures ▹ pumped _ c.pump-n.ensures c.decl.ensures) c.left_over.ensures)

pub lead-returns-then-lead_takes : goal.lead-returns-then-lead_takes
unfolding lead_of
lead-returns-then-lead_takes t c =
    parsed _ _ c.records_of-p.ensures (lead_of_lem _ c.records_of-p.ensures c.kind_at-kind.ensures (c.lead_head.ensures ▹ next_so _ _ _ c.lead_takes.ensures c.if-lead_takes.true (steady c.before_value.ensures ▹ pumped _ c.pump-n.ensures c.expr.ensures))) c.left_over.ensures

pub lead-returns : goal.lead-returns
unfolding lead_of
lead-returns t c =
    parsed _ _ c.records_of-p.ensures (lead_of_lem _ c.records_of-p.ensures c.kind_at-kind.ensures (c.lead_head.ensures ▹ next_not _ _ _ c.lead_takes.ensures c.if-lead_takes.false (steady c.no_value.ensures))) c.left_over-2.ensures

pub let_-returns-then-depth-eq0 : goal.let_-returns-then-depth-eq0
let_-returns-then-depth-eq0 t c = too_deep _ _ _ c.if-depth-eq0.true c.refuse.ensures

pub let_-returns : goal.let_-returns
unfolding below lets
let_-returns t c =
    deep _ _ _ _ c.if-depth-eq0.false (parsed _ _ c.records_of-p.ensures (c.let_head.ensures ▹ expr_met _ _ c.expect_expr-n.ensures c.expr.ensures) c.left_over.ensures)

pub link-returns-then-depth-eq0 : goal.link-returns-then-depth-eq0
link-returns-then-depth-eq0 t c = too_deep _ _ _ c.if-depth-eq0.true c.refuse.ensures

pub link-returns-in-227 : goal.link-returns-in-227
unfolding below link byte_of facts_of
link-returns-in-227 t c = deep _ _ _ _ c.if-depth-eq0.false (rw (sym c.kind_at-kind.ensures ∙ c.in-227.is) c.try_link.ensures)

pub link-returns-in-228 : goal.link-returns-in-228
unfolding below link byte_of facts_of
link-returns-in-228 t c = deep _ _ _ _ c.if-depth-eq0.false (rw (sym c.kind_at-kind.ensures ∙ c.in-228.is) c.await_link.ensures)

pub link-returns-in-229 : goal.link-returns-in-229
unfolding below link byte_of facts_of
link-returns-in-229 t c = deep _ _ _ _ c.if-depth-eq0.false (rw (sym c.kind_at-kind.ensures ∙ c.in-229.is) c.field_link.ensures)

pub link-returns-in-230 : goal.link-returns-in-230
unfolding below link byte_of facts_of
link-returns-in-230 t c = deep _ _ _ _ c.if-depth-eq0.false (rw (sym c.kind_at-kind.ensures ∙ c.in-230.is) c.exprs.ensures)

pub link-returns-in-231 : goal.link-returns-in-231
unfolding below link index byte_of facts_of
link-returns-in-231 t c =
    deep _ _ _ _ c.if-depth-eq0.false (rw (sym c.kind_at-kind.ensures ∙ c.in-231.is) (parsed _ _ c.records_of-p.ensures (c.open_index.ensures ▹ pumped _ c.pump-n.ensures c.expr.ensures ▹ c.close_index.ensures) c.left_over.ensures))

pub link-returns-in_default : goal.link-returns-in_default
unfolding below link byte_of facts_of
link-returns-in_default t c =
    let n = c.in_default.in_default-own.rest in deep _ _ _ _ c.if-depth-eq0.false (rw (sym c.kind_at-kind.ensures, ne_eqb _ _ n.0.0.0.0.1, ne_eqb _ _ n.0.0.0.1, ne_eqb _ _ n.0.0.1, ne_eqb _ _ n.0.1, ne_eqb _ _ n.1) (c.refuse-in_default.ensures.ran _ _ _))

pub loops-returns-in-207 : goal.loops-returns-in-207
unfolding loop_of byte_of facts_of
loops-returns-in-207 t c =
    parsed _ _ c.records_of-p.ensures (loop_of_lem _ c.records_of-p.ensures c.kind_at-kind.ensures (step_so _ _ refl (eq-eqb _ _ c.in-207.is) (c.cond.ensures ▹ expected _ _ _ c.expect-n.ensures c.block.ensures))) c.left_over.ensures

pub loops-returns-in-208 : goal.loops-returns-in-208
unfolding loop_of byte_of facts_of
loops-returns-in-208 t c =
    parsed _ _ c.records_of-p.ensures (loop_of_lem _ c.records_of-p.ensures c.kind_at-kind.ensures (step_not _ _ refl (ap (λ (k : ℕ). eqb k (byte_of Kind.ExprWhile)) c.in-208.is) (step_so _ _ refl (eq-eqb _ _ c.in-208.is) (c.word.ensures ▹ expected _ _ _ c.expect-n-in-208.ensures c.block-in-208.ensures)))) c.left_over-in-208.ensures

pub loops-returns-in_default : goal.loops-returns-in_default
unfolding loop_of byte_of facts_of
loops-returns-in_default t c =
    parsed _ _ c.records_of-p.ensures (loop_of_lem _ c.records_of-p.ensures c.kind_at-kind.ensures (step_not _ _ refl (ne_eqb _ _ c.in_default.in_default-own.rest.0.1) (step_not _ _ refl (ne_eqb _ _ c.in_default.in_default-own.rest.1) (c.for_in.ensures ▹ pumped _ c.pump-n.ensures c.expr.ensures ▹ steady c.ws.ensures ▹ expected _ _ _ c.expect-n-in_default.ensures c.block-in_default.ensures)))) c.left_over-in_default.ensures

pub loose-loop-p-init : goal.loose-loop-p-init
loose-loop-p-init t c = starts

pub loose-loop-p-smaller : goal.loose-loop-p-smaller
loose-loop-p-smaller t c =
    let x = script_of c.args.src.now c.args.table.now in falls (loose_falls x (lay x c.args.depth)) c.next_expr.ensures c.loop-p-test.true (pumped _ c.pump-n.ensures (loose_entry_lem _ _ c.comments.ensures c.expr.ensures) ▹ c.end_entry.ensures)

pub loose-loop-p-preserved : goal.loose-loop-p-preserved
loose-loop-p-preserved t c =
    let x = script_of c.args.src.now c.args.table.now in goes_on (loose_falls x (lay x c.args.depth)) c.next_expr.ensures c.loop-p-test.true (pumped _ c.pump-n.ensures (loose_entry_lem _ _ c.comments.ensures c.expr.ensures) ▹ c.end_entry.ensures) c.loop-p.invariant

pub loose-returns : goal.loose-returns
unfolding loose
loose-returns t c = steady c.open_lines.ensures ▹ done c.next_expr.ensures c.loop-p-test.false c.loop-p.invariant ▹ steady c.close_lines.ensures

pub match_-loop-p-init : goal.match_-loop-p-init
match_-loop-p-init t c = starts

pub match_-loop-p-smaller : goal.match_-loop-p-smaller
unfolding byte_of facts_of
match_-loop-p-smaller t c =
    let x = script_of c.args.src.now c.args.table.now in seen_less _ _ _ (cases_take x (lay x c.args.depth)) c.next_is.ensures c.loop-p-test.true (comma_of _ _ _ c.next_is.ensures c.loop-p-test.true c.pump-n-in-loop-p.ensures c.is_block_arm.ensures (pumped _ c.pump-n-in-loop-p.ensures (match_arm_lem _ _ _ c.open_arm.ensures c.arm.ensures) ▹ c.arm_comma.ensures))

pub match_-loop-p-preserved : goal.match_-loop-p-preserved
unfolding byte_of facts_of
match_-loop-p-preserved t c =
    let x = script_of c.args.src.now c.args.table.now in next_seen _ _ _ (cases_take x (lay x c.args.depth)) c.next_is.ensures c.loop-p-test.true (comma_of _ _ _ c.next_is.ensures c.loop-p-test.true c.pump-n-in-loop-p.ensures c.is_block_arm.ensures (pumped _ c.pump-n-in-loop-p.ensures (match_arm_lem _ _ _ c.open_arm.ensures c.arm.ensures) ▹ c.arm_comma.ensures)) c.loop-p.invariant

pub match_-returns : goal.match_-returns
unfolding matches cases byte_of facts_of
match_-returns t c =
    parsed _ _ c.records_of-p.ensures (c.word.ensures ▹ pumped _ c.pump-n.ensures c.expr.ensures ▹ c.open_match.ensures ▹ (all_seen _ c.next_is.ensures c.loop-p-test.false c.loop-p.invariant ▹ last_done _ c.close_arms.ensures) ▹ c.token.ensures) c.left_over.ensures

pub object-returns-then-loose : goal.object-returns-then-loose
unfolding byte_of facts_of
object-returns-then-loose t c =
    parsed _ _ c.records_of-p.ensures (object_of _ c.records_of-p.ensures (behind_name_lem (script_of c.args.src.now c.args.table.now) (tree_few c.args.table.now) c.peek.ensures c.unwrap_or-name.ensures c.behind.ensures) c.goes_loose-loose.ensures (c.object_name.ensures ▹ c.token.ensures ▹ step_so _ _ refl c.if-loose.true c.rows.ensures)) c.left_over.ensures

pub object-loop-fmt-init : goal.object-loop-fmt-init
object-loop-fmt-init t c = no_item_lem

pub object-loop-fmt-smaller : goal.object-loop-fmt-smaller
unfolding byte_of facts_of
object-loop-fmt-smaller t c =
    let x = script_of c.args.src.now c.args.table.now in let below = lay x c.args.depth in let comma = remaining_of Comma c.loop-fmt.comma in turn_less x.tree (is x.tree Kind.ObjectKey) (keyed x below) silent (row_falls x below) {c = comma} c.next_is.ensures c.loop-fmt-test.true (keyed_item x below comma c.next_key.ensures c.pair.ensures) (rests_with silent c.take_remaining-comma.ensures nothing_made)

pub object-loop-fmt-preserved : goal.object-loop-fmt-preserved
unfolding byte_of facts_of
object-loop-fmt-preserved t c =
    let x = script_of c.args.src.now c.args.table.now in let below = lay x c.args.depth in let comma = remaining_of Comma c.loop-fmt.comma in next_turn x.tree (is x.tree Kind.ObjectKey) (keyed x below) silent (row_falls x below) c.next_is.ensures c.loop-fmt-test.true (keyed_item x below comma c.next_key.ensures c.pair.ensures) (rests_with silent c.take_remaining-comma.ensures nothing_made) c.loop-fmt.invariant

pub object-returns : goal.object-returns
unfolding row byte_of facts_of
object-returns t c =
    parsed _ _ c.records_of-p.ensures (object_of _ c.records_of-p.ensures (behind_name_lem (script_of c.args.src.now c.args.table.now) (tree_few c.args.table.now) c.peek.ensures c.unwrap_or-name.ensures c.behind.ensures) c.goes_loose-loose.ensures (c.object_name.ensures ▹ c.token.ensures ▹ step_not _ _ refl c.if-loose.false (items_done _ _ _ c.next_is.ensures c.loop-fmt-test.false c.loop-fmt.invariant.going ▹ object_ends c.close_object.ensures ▹ c.put_remaining.ensures))) c.left_over-2.ensures

pub pair-returns-then-next_is : goal.pair-returns-then-next_is
unfolding pair byte_of facts_of
pair-returns-then-next_is t c = next_so _ _ _ c.next_is.ensures c.if-next_is.true (c.any.ensures ▹ steady c.ws.ensures ▹ pumped _ c.pump-n.ensures c.expr.ensures)

pub pair-returns-else-next_is : goal.pair-returns-else-next_is
unfolding pair byte_of facts_of
pair-returns-else-next_is t c = next_not _ _ _ c.next_is.ensures c.if-next_is.false (steady nothing_made)

pub range-returns-then-is_prefix : goal.range-returns-then-is_prefix
unfolding range_of
range-returns-then-is_prefix t c =
    parsed _ _ c.records_of-p.ensures (range_of_lem _ c.records_of-p.ensures c.kind_at-kind.ensures (step_so _ _ c.is_prefix.ensures c.if-is_prefix.true (c.any.ensures ▹ pumped _ c.pump-n.ensures c.inner.ensures))) c.left_over.ensures

pub range-returns-then-kind : goal.range-returns-then-kind
unfolding range_of byte_of facts_of
range-returns-then-kind t c =
    parsed _ _ c.records_of-p.ensures (range_of_lem _ c.records_of-p.ensures c.kind_at-kind.ensures (step_not _ _ c.is_prefix.ensures c.if-is_prefix.false (pumped _ c.pump-n-2.ensures c.inner-2.ensures ▹ c.any-2.ensures ▹ step_so _ _ refl (eq-eqb _ _ c.if-kind.true) (steady nothing_made)))) c.left_over-then-kind.ensures

pub range-returns : goal.range-returns
unfolding range_of byte_of facts_of
range-returns t c =
    parsed _ _ c.records_of-p.ensures (range_of_lem _ c.records_of-p.ensures c.kind_at-kind.ensures (step_not _ _ c.is_prefix.ensures c.if-is_prefix.false (pumped _ c.pump-n-2.ensures c.inner-2.ensures ▹ c.any-2.ensures ▹ step_not _ _ refl (ne_eqb _ _ c.if-kind.false) (pumped _ c.pump-n-3.ensures c.inner-3.ensures)))) c.left_over-2.ensures

pub rows-loop-fmt-init : goal.rows-loop-fmt-init
rows-loop-fmt-init t c = starts

pub rows-loop-fmt-smaller : goal.rows-loop-fmt-smaller
unfolding byte_of facts_of
rows-loop-fmt-smaller t c =
    falls (rows_fall (script_of c.args.src.now c.args.table.now) _) c.next_is.ensures c.loop-fmt-test.true (c.key_line.ensures ▹ c.pair.ensures ▹ c.end_entry.ensures)

pub rows-loop-fmt-preserved : goal.rows-loop-fmt-preserved
unfolding byte_of facts_of
rows-loop-fmt-preserved t c =
    goes_on (rows_fall (script_of c.args.src.now c.args.table.now) _) c.next_is.ensures c.loop-fmt-test.true (c.key_line.ensures ▹ c.pair.ensures ▹ c.end_entry.ensures) c.loop-fmt.invariant

pub rows-returns : goal.rows-returns
unfolding rows byte_of facts_of
rows-returns t c = steady c.open_lines.ensures ▹ done c.next_is.ensures c.loop-fmt-test.false c.loop-fmt.invariant ▹ c.close_keys.ensures

pub select-loop-p-init : goal.select-loop-p-init
select-loop-p-init t c = starts

pub select-loop-p-smaller : goal.select-loop-p-smaller
unfolding byte_of facts_of
select-loop-p-smaller t c =
    let x = script_of c.args.src.now c.args.table.now in falls (arms_fall x (lay x c.args.depth)) c.next_is-in-loop-p.ensures c.loop-p-test.true (comma_of _ _ _ c.next_is-in-loop-p.ensures c.loop-p-test.true c.pump-n.ensures c.is_block_arm.ensures (pumped _ c.pump-n.ensures (select_arm_lem _ _ c.before_line.ensures c.arm.ensures) ▹ c.arm_comma.ensures))

pub select-loop-p-preserved : goal.select-loop-p-preserved
unfolding byte_of facts_of
select-loop-p-preserved t c =
    let x = script_of c.args.src.now c.args.table.now in goes_on (arms_fall x (lay x c.args.depth)) c.next_is-in-loop-p.ensures c.loop-p-test.true (comma_of _ _ _ c.next_is-in-loop-p.ensures c.loop-p-test.true c.pump-n.ensures c.is_block_arm.ensures (pumped _ c.pump-n.ensures (select_arm_lem _ _ c.before_line.ensures c.arm.ensures) ▹ c.arm_comma.ensures)) c.loop-p.invariant

pub select-returns-then-next_is : goal.select-returns-then-next_is
unfolding select arms byte_of facts_of
select-returns-then-next_is t c =
    parsed _ _ c.records_of-p.ensures (c.word.ensures ▹ next_so _ _ _ c.next_is.ensures c.if-next_is.true (c.open_select.ensures ▹ done c.next_is-in-loop-p.ensures c.loop-p-test.false c.loop-p.invariant ▹ c.close_select.ensures)) c.left_over.ensures

pub select-returns : goal.select-returns
unfolding select byte_of facts_of
select-returns t c = parsed _ _ c.records_of-p.ensures (c.word.ensures ▹ next_not _ _ _ c.next_is.ensures c.if-next_is.false (steady c.lit.ensures)) c.left_over-2.ensures

pub stmt-returns-then-is_item : goal.stmt-returns-then-is_item
unfolding stmt
stmt-returns-then-is_item t c = if_so _ _ c.is_item.ensures c.if-is_item.true c.item.ensures

pub stmt-returns-then-is_let : goal.stmt-returns-then-is_let
unfolding stmt
stmt-returns-then-is_let t c = if_not _ _ c.is_item.ensures c.if-is_item.false (if_so _ _ c.is_let.ensures c.if-is_let.true c.let_.ensures)

pub stmt-returns : goal.stmt-returns
unfolding stmt
stmt-returns t c = if_not _ _ c.is_item.ensures c.if-is_item.false (if_not _ _ c.is_let.ensures c.if-is_let.false c.expr.ensures)

pub stmts-loop-p-init : goal.stmts-loop-p-init
stmts-loop-p-init t c = none_said _ _

pub stmts-loop-p-smaller : goal.stmts-loop-p-smaller
stmts-loop-p-smaller t c =
    let x = script_of c.args.src.now c.args.table.now in said_less x (lay x c.args.depth) c.loop-p.last c.has_next.ensures c.loop-p-test.true c.pump-n.ensures c.kind_at-kind.ensures (pumped _ c.pump-n.ensures (statement_of _ _ _ c.kind_at-kind.ensures c.gap.ensures c.comments.ensures c.stmt.ensures) ▹ c.semicolon.ensures)

pub stmts-loop-p-preserved : goal.stmts-loop-p-preserved
stmts-loop-p-preserved t c =
    let x = script_of c.args.src.now c.args.table.now in next_said x (lay x c.args.depth) c.loop-p.last c.has_next.ensures c.loop-p-test.true c.pump-n.ensures c.kind_at-kind.ensures (pumped _ c.pump-n.ensures (statement_of _ _ _ c.kind_at-kind.ensures c.gap.ensures c.comments.ensures c.stmt.ensures) ▹ c.semicolon.ensures) c.loop-p.invariant

pub stmts-returns : goal.stmts-returns
unfolding stmts
stmts-returns t c = c.inner_attributes.ensures ▹ all_said _ _ c.has_next.ensures c.loop-p-test.false c.loop-p.invariant

pub tail-loop-p-init : goal.tail-loop-p-init
tail-loop-p-init t c = starts

pub tail-loop-p-smaller : goal.tail-loop-p-smaller
tail-loop-p-smaller t c =
    let x = script_of c.args.src.now c.args.table.now in falls (pump_falls _ (lay x c.args.depth Rule.Else)) c.has_next.ensures c.loop-p-test.true (pumped _ c.pump-n.ensures c.else_.ensures)

pub tail-loop-p-preserved : goal.tail-loop-p-preserved
tail-loop-p-preserved t c =
    let x = script_of c.args.src.now c.args.table.now in goes_on (pump_falls _ (lay x c.args.depth Rule.Else)) c.has_next.ensures c.loop-p-test.true (pumped _ c.pump-n.ensures c.else_.ensures) c.loop-p.invariant

pub tail-returns : goal.tail-returns
unfolding tail
tail-returns t c = done c.has_next.ensures c.loop-p-test.false c.loop-p.invariant

pub tuple-loop-fmt-init : goal.tuple-loop-fmt-init
tuple-loop-fmt-init t c = none_counted

pub tuple-loop-fmt-smaller : goal.tuple-loop-fmt-smaller
tuple-loop-fmt-smaller t c =
    item_less _ _ _ c.next_expr.ensures c.loop-fmt-test.true c.before_item.ensures (pumped _ c.pump-n.ensures c.expr.ensures) c.behind_item-comma.ensures (counted c.loop-fmt.invariant)

pub tuple-loop-fmt-preserved : goal.tuple-loop-fmt-preserved
tuple-loop-fmt-preserved t c =
    next_counted _ _ _ c.next_expr.ensures c.loop-fmt-test.true c.before_item.ensures (pumped _ c.pump-n.ensures c.expr.ensures) c.behind_item-comma.ensures c.more-count.ensures c.loop-fmt.invariant

pub tuple-returns : goal.tuple-returns
unfolding tuple byte_of facts_of
tuple-returns t c =
    parsed _ _ c.records_of-p.ensures (c.token.ensures ▹ items_done _ _ _ c.next_expr.ensures c.loop-fmt-test.false c.loop-fmt.invariant ▹ tuple_ends _ c.close_tuple.ensures ▹ c.token-2.ensures) c.left_over.ensures
