-- `gaps::arms::open_select` meets its contract. Assumes nothing.
use Rattle.gaps.specs.Arms.{open_select}
use Rattle.steps.proofs.Rules.{◌▹◌, steady}
use Rattle.gaps.proofs.arms.open_select.Goals as goal

pub returns : goal.returns
unfolding open_select
returns c = steady c.indent.ensures ▹ c.any.ensures
