-- `parts::spaced::between` meets its contract. Assumes nothing.
use Rattle.parts.specs.Spaced.{between}
use Rattle.steps.proofs.Rules.{◌▹◌, steady}
use Rattle.parts.proofs.spaced.between.Goals as goal

pub returns : goal.returns
unfolding between
returns g c = steady c.ws.ensures ▹ c.token.ensures ▹ steady c.ws-2.ensures
