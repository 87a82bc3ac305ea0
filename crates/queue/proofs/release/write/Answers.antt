-- `queue::release::write` meets its contract. The invariant: what is written, and what is still to write, make up the whole. Assumes nothing.
use Rattle.queue.proofs.{PassLaws.put_of, PassLaws.write_end, PassLaws.write_room, PassLaws.write_turn}
use Rattle.lent.proofs.{RingLaws.ring_next, TabLaws.tab_none}
use Rattle.queue.proofs.release.write.Goals as goal

pub lay-len-requires : goal.lay-len-requires
lay-len-requires c =
    write_room _ _ _ (ring_next c.args.queue.now c.args.fmt.now.head c.args.n c.loop-i.i _ c.loop-i-test.true c.comment_at-c.ensures)
    (put_of _ _ _ c.gap_before-gap.result c.gap_before-gap.ensures c.letters-t.ensures) c.loop-i.invariant

pub loop-i-preserved : goal.loop-i-preserved
loop-i-preserved c =
    rw c.lay-len.ensures.end (write_turn _ _ _
    (ring_next c.args.queue.now c.args.fmt.now.head c.args.n c.loop-i.i _ c.loop-i-test.true c.comment_at-c.ensures)
    (put_of _ _ _ c.gap_before-gap.result c.gap_before-gap.ensures c.letters-t.ensures) c.loop-i.invariant c.lay-len.ensures.bytes)

pub returns : goal.returns
returns c = write_end _ _ _ (tab_none _ c.args.fmt.now.head c.args.n c.loop-i.i c.loop-i-test.false) c.loop-i.invariant
