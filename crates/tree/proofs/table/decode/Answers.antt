-- `tree::table::decode` meets its contract. Assumes nothing.
use Rattle.tree.proofs.RecordLaws.{body_le}
use Rattle.tree.proofs.TableLaws.{in_room, room_le, writing_end, writing_full, writing_more, writing_none}
use lib.ListN.{length}
use native.Mathlib.Omega.{arith}
use Rattle.tree.proofs.table.decode.Goals as goal

pub loop-n-init : goal.loop-n-init
loop-n-init c = writing_none c.room-most.ensures

pub overflow_cast-result : goal.overflow_cast-result
overflow_cast-result c = omega (arith, in_room c.loop-n.invariant)

pub returns-then-list-at : goal.returns-then-list-at
returns-then-list-at c = writing_end c.loop-n.invariant (λ i. omega (arith, c.shared_slice_known-1.given i)) c.if-list-at.true

pub overflow_mul-n : goal.overflow_mul-n
overflow_mul-n c = omega (arith, in_room c.loop-n.invariant)

pub put-requires : goal.put-requires
put-requires c = omega (arith, c.loop-n.invariant, room_le (length c.args.to.now))

pub overflow_add-at : goal.overflow_add-at
overflow_add-at c = omega (arith, body_le c.record_at-r.result.kind)

pub overflow_add-at-in-loop-n : goal.overflow_add-at-in-loop-n
overflow_add-at-in-loop-n c = omega (arith, in_room c.loop-n.invariant, c.loop-n.invariant.near, body_le c.record_at-r.result.kind)

pub loop-n-preserved : goal.loop-n-preserved
loop-n-preserved c =
    writing_more c.loop-n.invariant c.loop-n-test.true c.if-list-at.false c.record_at-r.ensures c.body.ensures
    c.kind_word.ensures c.put.ensures c.put.auto.to

pub overflow_cast-result-2 : goal.overflow_cast-result-2
overflow_cast-result-2 c = omega (arith, in_room c.loop-n.invariant)

pub returns : goal.returns
returns c = writing_full c.loop-n.invariant (λ i. omega (arith, c.shared_slice_known-1.given i)) (omega arith)
