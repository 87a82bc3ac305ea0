-- `rules::node::content` meets its contract. Assumes nothing.
use Rattle.rules.specs.Rules.{content}
use Rattle.steps.proofs.Rules.{parsed}
use Rattle.rules.proofs.node.content.Goals as goal

pub returns : goal.returns
unfolding content
returns c = parsed _ _ c.records_of-p.ensures c.stmts.ensures c.left_over.ensures
