-- `parts::links::close_index` meets its contract. Assumes nothing.
use Rattle.parts.specs.Links.{close_index}
use Rattle.steps.proofs.Rules.{◌▹◌, byte_of, facts_of, steady}
use Rattle.parts.proofs.links.close_index.Goals as goal

pub returns : goal.returns
unfolding close_index byte_of facts_of
returns c = steady c.comments.ensures ▹ c.token.ensures
