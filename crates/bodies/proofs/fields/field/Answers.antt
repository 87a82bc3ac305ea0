-- `bodies::fields::field` meets its contract. Assumes nothing.
use Rattle.steps.proofs.Rules.{parsed}
use Rattle.bodies.specs.Body.{field}
use Rattle.bodies.proofs.fields.field.Goals as goal

pub returns : goal.returns
unfolding field
returns c = parsed _ _ c.records_of-p.ensures c.any.ensures c.left_over.ensures
