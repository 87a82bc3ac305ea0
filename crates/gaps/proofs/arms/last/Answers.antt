-- `gaps::arms::last` meets its contract. Assumes nothing.
use Rattle.gaps.proofs.ArmLaws.{last_less, last_next, last_of_lem, last_starts}
use Rattle.gaps.proofs.arms.last.Goals as goal

pub loop-n-init : goal.loop-n-init
loop-n-init c = last_starts

pub loop-n-smaller : goal.loop-n-smaller
loop-n-smaller c = last_less _ c.has_next.ensures c.loop-n-test.true c.take-n.ensures

pub loop-n-preserved : goal.loop-n-preserved
loop-n-preserved c = last_next c.has_next.ensures c.loop-n-test.true c.take-n.ensures c.loop-n.invariant

pub returns : goal.returns
returns c = last_of_lem _ _ c.records_of-p.ensures c.has_next.ensures c.loop-n-test.false c.loop-n.invariant
