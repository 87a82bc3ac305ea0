-- `rules::node::arguments` meets its contract. Assumes nothing.
use Rattle.rules.specs.Rules.{arguments}
use Rattle.steps.proofs.Rules.{byte_of, facts_of}
use Rattle.rules.proofs.node.arguments.Goals as goal

pub returns : goal.returns
unfolding arguments byte_of facts_of
returns c = c.exprs.ensures
