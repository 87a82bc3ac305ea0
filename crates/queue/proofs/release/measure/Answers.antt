-- `queue::release::measure` meets its contract. The invariant: what is counted and reached, and what is still to go, make up the whole. Assumes nothing.
use Rattle.text.proofs.Base.{◌∙◌, sym, arith}
use Rattle.queue.proofs.{PassLaws.measure_end, PassLaws.measure_over}
use Rattle.lent.proofs.{RingLaws.ring_next, TabLaws.tab_none}
use Rattle.queue.proofs.{PassLaws.measure_stop, PassLaws.measure_turn, PassLaws.put_of}
use Rattle.queue.proofs.release.measure.Goals as goal

pub returns-then-stops : goal.returns-then-stops
returns-then-stops c =
    measure_stop _ _ _ (ring_next c.args.queue.now c.args.fmt.now.head c.args.fmt.now.count c.loop-i.i _ c.loop-i-test.true c.comment_at-c.ensures)
    (sym c.stops.ensures ∙ c.if-stops.true) c.loop-i.invariant

pub returns-then-passes : goal.returns-then-passes
returns-then-passes c =
    measure_over _ _ _ (ring_next c.args.queue.now c.args.fmt.now.head c.args.fmt.now.count c.loop-i.i _ c.loop-i-test.true c.comment_at-c.ensures)
    (sym c.stops.ensures ∙ c.if-stops.false) (put_of _ _ _ c.gap_before-gap.result c.gap_before-gap.ensures c.letters-t.ensures) (sym c.passes.ensures.0 ∙ c.if-passes.true) c.loop-i.invariant

pub loop-i-preserved : goal.loop-i-preserved
loop-i-preserved c =
    measure_turn _ _ _ (ring_next c.args.queue.now c.args.fmt.now.head c.args.fmt.now.count c.loop-i.i _ c.loop-i-test.true c.comment_at-c.ensures)
    (sym c.stops.ensures ∙ c.if-stops.false) (put_of _ _ _ c.gap_before-gap.result c.gap_before-gap.ensures c.letters-t.ensures) (c.passes.ensures.1 c.if-passes.false) c.loop-i.invariant

pub returns : goal.returns
returns c =
    measure_end _ _ _ (tab_none _ c.args.fmt.now.head c.args.fmt.now.count c.loop-i.i c.loop-i-test.false)
    (omega (arith, c.loop-i-test.false, c.loop-i.auto.i-end)) c.loop-i.invariant
