-- `parts::lone::whole` meets its contract. Assumes nothing.
use Rattle.parts.specs.Lone.{whole}
use Rattle.steps.proofs.Rules.{parsed}
use Rattle.parts.proofs.lone.whole.Goals as goal

pub returns : goal.returns
unfolding whole
returns c = parsed _ _ c.records_of-p.ensures c.any.ensures c.left_over.ensures
