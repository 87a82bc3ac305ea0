-- `parts::links::await_link` meets its contract. Assumes nothing.
use Rattle.parts.specs.Links.{awaited}
use Rattle.steps.proofs.Rules.{◌▹◌, byte_of, facts_of, parsed}
use Rattle.parts.proofs.links.await_link.Goals as goal

pub returns : goal.returns
unfolding awaited byte_of facts_of
returns c = parsed _ _ c.records_of-p.ensures (c.token.ensures ▹ c.token-2.ensures) c.left_over.ensures
