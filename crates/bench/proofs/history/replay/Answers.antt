-- `bench::history::replay` meets its contract. The invariant: from here on is as much as from the start. Assumes nothing.
use Rattle.bench.proofs.HistoryLaws.{few_bytes, going_end, going_more, going_none, some_bytes}
use Rattle.lent.proofs.MadeLaws.{keeps}
use native.Mathlib.Omega.{arith}
use Rattle.bench.proofs.history.replay.Goals as goal

pub returns : goal.returns
returns c = going_end c.loop-at.invariant c.loop-at-test.false

pub loop-at-init : goal.loop-at-init
loop-at-init c = going_none

pub overflow_add-at : goal.overflow_add-at
overflow_add-at c = omega (arith, few_bytes c.args.records.now c.loop-at.at c.loop-at-test.true c.record_at-t.ensures)

pub loop-at-smaller : goal.loop-at-smaller
loop-at-smaller c = omega (arith, some_bytes c.args.records.now c.loop-at.at c.loop-at-test.true c.record_at-t.ensures)

pub loop-at-preserved : goal.loop-at-preserved
loop-at-preserved c = going_more c.decode.result c.loop-at.invariant c.loop-at-test.true c.record_at-t.ensures c.decode.ensures c.asked.ensures

pub shape_of-out : goal.shape_of-out
shape_of-out c = keeps (returns c)
