-- `gaps::arms::open_arm` meets its contract. Assumes nothing.
use Rattle.gaps.specs.Arms.{open_arm}
use Rattle.steps.proofs.Rules.{if_so, nothing_made, refl}
use Rattle.gaps.proofs.arms.open_arm.Goals as goal

pub returns-else-not-any : goal.returns-else-not-any
unfolding open_arm
returns-else-not-any c = if_so _ _ refl c.if-not-any.false nothing_made
