-- `bodies::body::variants` meets its contract. Assumes nothing.
use Rattle.steps.proofs.Rules.{byte_of, facts_of, tree_of, parse, ◌▹◌, steady, pumped, kept_length}
use Rattle.steps.proofs.Rules.{none_seen, next_seen, seen_less, all_seen, last_done}
use Rattle.bodies.specs.Body.{lined, variant, variants}
use Rattle.bodies.proofs.{BodyLaws.lines_take, BodyLaws.one_line}
use Rattle.bodies.proofs.body.variants.Goals as goal

pub returns : goal.returns
unfolding variants byte_of facts_of
returns c = c.any.ensures ▹ steady c.indent.ensures ▹ all_seen _ c.next_is.ensures c.loop-seen-test.false c.loop-seen.invariant ▹ last_done _ c.end_lines.ensures ▹ c.token.ensures

pub loop-seen-init : goal.loop-seen-init
loop-seen-init c = none_seen _

pub loop-seen-smaller : goal.loop-seen-smaller
unfolding byte_of facts_of
loop-seen-smaller c =
    let rs = tree_of c.args.table.now in let rule = parse rs (variant rs) in
    seen_less _ (lined rs rule) c.loop-seen.seen (lines_take rs _ rule) c.next_is.ensures c.loop-seen-test.true (one_line rs rule _ c.before_line.ensures (pumped _ c.pump-n.ensures c.variant.ensures) c.put_remaining.ensures)

pub loop-seen-preserved : goal.loop-seen-preserved
unfolding byte_of facts_of
loop-seen-preserved c =
    let rs = tree_of c.args.table.now in let rule = parse rs (variant rs) in
    next_seen _ (lined rs rule) c.loop-seen.seen (lines_take rs _ rule) c.next_is.ensures c.loop-seen-test.true (one_line rs rule _ c.before_line.ensures (pumped _ c.pump-n.ensures c.variant.ensures) c.put_remaining.ensures) c.loop-seen.invariant

pub shape_of-out : goal.shape_of-out
shape_of-out c = kept_length (returns c)
