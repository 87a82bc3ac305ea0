-- `opening::levels::past_leaves` meets its contract. The invariant: the leaves passed and what is still to count make up the whole.
-- Assumes nothing.
use Rattle.tree.proofs.RecordLaws.{leaf_next, records_few}
use lib.ListN.{drop, length-drop}
use native.Mathlib.Omega.{arith}
use Rattle.opening.proofs.levels.past_leaves.Goals as goal

pub overflow_add-n : goal.overflow_add-n
overflow_add-n c = omega (arith, c.loop-at.invariant.1, records_few 0 (drop c.args.from c.args.list.now), length-drop c.args.from c.args.list.now)

pub loop-at-preserved : goal.loop-at-preserved
loop-at-preserved c = (omega arith, omega (arith, c.loop-at.invariant.1, leaf_next c.args.list.now c.loop-at.at c.loop-at-test.true c.if-list-at-lt128.true))
