-- `gaps::arms::arm_comma` meets its contract. Assumes nothing.
use Rattle.gaps.specs.Arms.{arm_comma}
use Rattle.steps.proofs.Rules.{rest_then}
use Rattle.steps.specs.Remaining.{write_only_if}
use Rattle.gaps.proofs.arms.arm_comma.Goals as goal

pub returns : goal.returns
unfolding arm_comma
returns c = rest_then (write_only_if _) c.take_remaining-comma.ensures c.write_only_if.ensures
