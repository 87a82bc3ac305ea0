-- `bodies::fields::struct_body` meets its contract. Assumes nothing.
use Rattle.steps.proofs.Rules.{byte_of, facts_of, tree_of, ◌▹◌, steady, pumped, parsed, none_seen}
use Rattle.steps.proofs.Rules.{next_seen, seen_less, all_seen, last_done, keeps}
use Rattle.bodies.specs.Body.{field, lined, struct_body}
use Rattle.bodies.proofs.{BodyLaws.lines_take, BodyLaws.one_line}
use Rattle.bodies.proofs.fields.struct_body.Goals as goal

pub returns : goal.returns
unfolding struct_body byte_of facts_of
returns c = parsed _ _ c.records_of-p.ensures (c.token.ensures ▹ steady c.indent.ensures ▹ steady c.comments.ensures ▹ all_seen _ c.next_is.ensures c.loop-seen-test.false c.loop-seen.invariant ▹ last_done _ c.end_lines.ensures ▹ c.token-2.ensures) c.left_over.ensures

pub loop-seen-init : goal.loop-seen-init
loop-seen-init c = none_seen _

pub loop-seen-smaller : goal.loop-seen-smaller
unfolding byte_of facts_of
loop-seen-smaller c = let rs = tree_of c.args.table.now in seen_less _ (lined rs (field rs)) c.loop-seen.seen (lines_take rs _ (field rs)) c.next_is.ensures c.loop-seen-test.true (one_line rs (field rs) _ c.before_line.ensures (pumped _ c.pump-n.ensures c.field.ensures) c.put_remaining.ensures)

pub loop-seen-preserved : goal.loop-seen-preserved
unfolding byte_of facts_of
loop-seen-preserved c = let rs = tree_of c.args.table.now in next_seen _ (lined rs (field rs)) c.loop-seen.seen (lines_take rs _ (field rs)) c.next_is.ensures c.loop-seen-test.true (one_line rs (field rs) _ c.before_line.ensures (pumped _ c.pump-n.ensures c.field.ensures) c.put_remaining.ensures) c.loop-seen.invariant

pub shape_of-out : goal.shape_of-out
shape_of-out c = keeps (returns c)
