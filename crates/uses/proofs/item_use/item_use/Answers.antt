-- `uses::item_use::item_use` meets its contract. Assumes nothing.
use Rattle.steps.proofs.Rules.{byte_of, facts_of, ◌▹◌, steady}
use Rattle.uses.specs.Use.{item_use}
use Rattle.uses.proofs.item_use.item_use.Goals as goal

pub returns : goal.returns
unfolding item_use byte_of facts_of
returns c = c.token.ensures ▹ steady c.ws.ensures ▹ c.item_use_path.ensures
