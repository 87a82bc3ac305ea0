-- `encoding::utf8::past_blocks` meets its contract. The invariant: nothing ill-formed has been passed. Assumes nothing.
use Rattle.encoding.proofs.WalkLaws.{past_block}
use mathlib.Core.Path.{◌∙◌, sym}
use native.Mathlib.Omega.{arith}
use Rattle.encoding.proofs.utf8.past_blocks.Goals as goal

pub loop-i-preserved : goal.loop-i-preserved
loop-i-preserved c = past_block c.args.size c.loop-i.invariant (omega (arith, c.loop-i.invariant)) (sym c.if-plain.true ∙ c.plain.ensures)
