-- `parts::links::open_index` meets its contract. Assumes nothing.
use Rattle.parts.specs.Links.{open_index}
use Rattle.steps.proofs.Rules.{◌▹◌, byte_of, facts_of, steady}
use Rattle.parts.proofs.links.open_index.Goals as goal

pub returns : goal.returns
unfolding open_index byte_of facts_of
returns c = c.token.ensures ▹ steady c.comments.ensures
