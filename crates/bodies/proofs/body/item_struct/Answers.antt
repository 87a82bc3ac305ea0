-- `bodies::body::item_struct` meets its contract. Assumes nothing.
use Rattle.steps.proofs.Rules.{byte_of, facts_of, ◌▹◌}
use Rattle.bodies.specs.Body.{item_struct}
use Rattle.bodies.proofs.body.item_struct.Goals as goal

pub returns : goal.returns
unfolding item_struct byte_of facts_of
returns c = c.token.ensures ▹ c.spaced_if.ensures ▹ c.body.ensures
