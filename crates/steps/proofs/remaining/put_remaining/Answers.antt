-- `steps::remaining::put_remaining` meets its contract. Assumes nothing.
use Rattle.steps.proofs.{RestLaws.put_rest}
use Rattle.steps.proofs.remaining.put_remaining.Goals as goal

pub returns : goal.returns
returns c = put_rest c.take_remaining-r.ensures c.put.ensures
