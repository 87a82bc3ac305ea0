-- The invariant: what was passed is tallied.
use Rattle.width.proofs.CountLaws.{tally_block, tally_join}
use native.Mathlib.Omega.{arith}
use Rattle.width.proofs.count.over_blocks.Goals as goal

pub overflow_add-n : goal.overflow_add-n
overflow_add-n c = omega (arith, c.loop-n.invariant, tally_block (c.plain_block.ensures c.if-plain_block.true) c.dark_bytes-n.ensures)

pub loop-n-preserved : goal.loop-n-preserved
loop-n-preserved c = tally_join c.loop-n.invariant (tally_block (c.plain_block.ensures c.if-plain_block.true) c.dark_bytes-n.ensures)
