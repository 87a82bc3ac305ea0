-- `gaps::arms::close_select` meets its contract. Assumes nothing.
use Rattle.gaps.specs.Arms.{close_select}
use Rattle.steps.proofs.Rules.{◌▹◌, byte_of, facts_of, steady}
use Rattle.gaps.proofs.arms.close_select.Goals as goal

pub returns : goal.returns
unfolding close_select byte_of facts_of
returns c = steady c.close_arms.ensures ▹ c.token.ensures
