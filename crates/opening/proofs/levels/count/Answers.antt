-- `opening::levels::count` meets its contract. The invariant: what is counted and what is still to count make up the whole. Assumes nothing.
use Rattle.tree.proofs.RecordLaws.{node_next, records_few, records_none}
use lib.ListN.{length}
use mathlib.Core.Path.{ap}
use native.Mathlib.Omega.{arith}
use Rattle.opening.proofs.levels.count.Goals as goal

pub overflow_add-n : goal.overflow_add-n
overflow_add-n c = omega (arith, c.loop-at.invariant, c.past_leaves-to.ensures.counted, records_few 0 c.args.list.now)

pub overflow_add-n-then-at-list : goal.overflow_add-n-then-at-list
overflow_add-n-then-at-list c = omega (arith, c.loop-at.invariant, c.past_leaves-to.ensures.counted, records_few 0 c.args.list.now)

pub loop-at-smaller-then-at-list : goal.loop-at-smaller-then-at-list
loop-at-smaller-then-at-list c = omega (arith, c.past_leaves-to.ensures.forth)

pub loop-at-preserved-then-at-list : goal.loop-at-preserved-then-at-list
loop-at-preserved-then-at-list c =
    omega (
      arith,
      c.loop-at.invariant,
      c.past_leaves-to.ensures.counted,
      node_next c.args.list.now c.past_leaves-to.result.at
          c.if-at-list.true (c.past_leaves-to.ensures.stops c.if-at-list.true),
    )

pub loop-at-preserved : goal.loop-at-preserved
loop-at-preserved c = omega (arith, c.loop-at.invariant, c.past_leaves-to.ensures.counted)

pub returns : goal.returns
returns c = omega (arith, ap length (records_none c.args.list.now c.loop-at.at (omega arith)))
