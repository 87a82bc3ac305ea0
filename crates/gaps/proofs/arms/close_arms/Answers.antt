-- `gaps::arms::close_arms` meets its contract. Assumes nothing.
use Rattle.gaps.specs.Arms.{close_arms}
use Rattle.steps.proofs.Rules.{if_not, if_so, refl}
use Rattle.lent.proofs.MadeLaws.{◌▹◌}
use Rattle.gaps.proofs.arms.close_arms.Goals as goal

pub returns-then-any : goal.returns-then-any
unfolding close_arms
returns-then-any c = if_so _ _ refl c.if-any.true (c.comments.ensures ▹ c.nl.ensures ▹ c.indent.ensures)

pub returns : goal.returns
unfolding close_arms
returns c = if_not _ _ refl c.if-any.false c.comments-2.ensures
