-- `gaps::lines::next_key` meets its contract. Assumes nothing.
use Rattle.gaps.specs.Lines.{next_key}
use Rattle.steps.proofs.Rules.{◌▹◌, steady}
use Rattle.gaps.proofs.lines.next_key.Goals as goal

pub returns : goal.returns
unfolding next_key
returns c = steady c.put.ensures ▹ steady c.ws.ensures ▹ c.any.ensures
