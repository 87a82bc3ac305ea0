-- `parts::spaced::word` meets its contract. Assumes nothing.
use Rattle.parts.specs.Spaced.{word}
use Rattle.steps.proofs.Rules.{◌▹◌, steady}
use Rattle.parts.proofs.spaced.word.Goals as goal

pub returns : goal.returns
unfolding word
returns g c = c.token.ensures ▹ steady c.ws.ensures
