-- `parts::links::try_link` meets its contract. Assumes nothing.
use Rattle.parts.specs.Links.{tried}
use Rattle.steps.proofs.Rules.{byte_of, facts_of, parsed}
use Rattle.parts.proofs.links.try_link.Goals as goal

pub returns : goal.returns
unfolding tried byte_of facts_of
returns c = parsed _ _ c.records_of-p.ensures c.token.ensures c.left_over.ensures
