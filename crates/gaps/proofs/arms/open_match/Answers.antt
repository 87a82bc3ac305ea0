-- `gaps::arms::open_match` meets its contract. Assumes nothing.
use Rattle.gaps.specs.Arms.{open_match}
use Rattle.steps.proofs.Rules.{◌▹◌, byte_of, facts_of, steady}
use Rattle.gaps.proofs.arms.open_match.Goals as goal

pub returns : goal.returns
unfolding open_match byte_of facts_of
returns c = steady c.ws.ensures ▹ c.token.ensures
