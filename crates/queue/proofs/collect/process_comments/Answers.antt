-- `queue::collect::process_comments` meets its contract. The invariant: from here on is gathered what is gathered from the start. Assumes nothing.
use Rattle.text.proofs.Base.{ap, refl, arith}
use Rattle.queue.specs.{Met.as_met}
use Rattle.queue.proofs.GatherLaws.{gather_blank, gather_end, gather_full, gather_inner, gather_note, gather_start, gather_stop}
use Rattle.queue.proofs.GatherLaws.{collected_full, collected_rest}
use Rattle.queue.proofs.collect.process_comments.Goals.{in-Inner, in-Blank, in-Remark+else-n-ge256, else-loop-i-test, then-loop-i-test+in-Stop}
use Rattle.queue.proofs.collect.process_comments.Goals as goal

pub loop-i-init : goal.loop-i-init
loop-i-init c = (refl, gather_start)

pub returns-then-n-ge256 : goal.returns-then-n-ge256
returns-then-n-ge256 c =
    collected_full (rw c.loop-i.invariant.0 at c.refused.ensures)
    (gather_full c.loop-i.invariant.1 c.node-r.result c.met_at.result (omega (arith, c.loop-i-test.true, c.size-i-end.ensures)) c.node-r.ensures c.met_at.ensures _ (ap (as_met c.node-r.result.span) c.in-Remark.is) c.if-n-ge256.true refl)

pub loop-i-preserved : goal.loop-i-preserved
loop-i-preserved c = (
  c.loop-i.invariant.0,
  elim c.match-met_at.branch [
    | in-Inner w ↦ rw (w.queue-is, w.lines-is, w.n-is)
        (gather_inner c.loop-i.invariant.1 c.node-r.result c.met_at.result (omega (arith, c.loop-i-test.true, c.size-i-end.ensures)) c.node-r.ensures c.met_at.ensures
        (ap (as_met c.node-r.result.span) w.in-Inner.is))
    | in-Blank w ↦ rw (w.queue-is, w.lines-is, w.n-is)
        (gather_blank c.loop-i.invariant.1 c.node-r.result c.met_at.result (omega (arith, c.loop-i-test.true, c.size-i-end.ensures)) c.node-r.ensures c.met_at.ensures
        _ _ (ap (as_met c.node-r.result.span) w.in-Blank.is) w.or_else-lines.ensures)
    | in-Remark+else-n-ge256 w ↦ rw (w.queue-is, w.lines-is, w.n-is)
        (gather_note c.loop-i.invariant.1 c.node-r.result c.met_at.result (omega (arith, c.loop-i-test.true, c.size-i-end.ensures)) c.node-r.ensures c.met_at.ensures
        _ _ (ap (as_met c.node-r.result.span) w.in-Remark.is) w.if-n-ge256.false (rw c.loop-i.invariant.0 at w.push.ensures))
  ],
)

pub returns : goal.returns
returns c =
    let done = rw c.loop-i.invariant.0 at c.collected.ensures in
    collected_rest done (elim c.loop-i-test.branch [
      | else-loop-i-test w ↦ gather_end c.loop-i.invariant.1 (omega (arith, w.loop-i-test.false, c.size-i-end.ensures)) done
      | then-loop-i-test+in-Stop w ↦
          gather_stop c.loop-i.invariant.1 w.node-r.result w.met_at.result (omega (arith, w.loop-i-test.true, c.size-i-end.ensures)) w.node-r.ensures w.met_at.ensures (ap (as_met w.node-r.result.span) w.in-Stop.is) done
    ])
