-- `bodies::body::variant` meets its contract. Assumes nothing.
use Rattle.steps.proofs.Rules.{byte_of, facts_of, ◌▹◌, steady, parsed}
use Rattle.bodies.specs.Body.{variant}
use Rattle.bodies.proofs.body.variant.Goals as goal

pub returns : goal.returns
unfolding variant byte_of facts_of
returns c = parsed _ _ c.records_of-p.ensures (steady c.comments.ensures ▹ c.token_if.ensures ▹ c.body.ensures) c.left_over.ensures
