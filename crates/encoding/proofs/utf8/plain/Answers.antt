-- `encoding::utf8::plain` meets its contract. The invariant: the bytes passed and those to come are plain exactly if all are.
-- Assumes nothing.
use Rattle.encoding.proofs.WalkLaws.{plain_end, plain_next}
use mathlib.Core.Path.{◌∙◌, refl}
use Rattle.encoding.proofs.utf8.plain.Goals as goal

pub loop-b-init : goal.loop-b-init
loop-b-init c = refl

pub loop-b-preserved : goal.loop-b-preserved
loop-b-preserved c = plain_next c.args.s.now c.loop-b.b-index c.loop-b.all c.loop-b-test.true ∙ c.loop-b.invariant

pub returns : goal.returns
returns c = plain_end c.args.s.now c.loop-b.b-index c.loop-b.all c.loop-b-test.false ∙ c.loop-b.invariant
