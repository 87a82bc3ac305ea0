-- `gaps::lines::close_keys` meets its contract. Assumes nothing.
use Rattle.gaps.specs.Lines.{close_keys}
use Rattle.steps.proofs.Rules.{◌▹◌, steady}
use Rattle.gaps.proofs.lines.close_keys.Goals as goal

pub returns : goal.returns
unfolding close_keys
returns c = steady c.nl.ensures ▹ steady c.indent.ensures ▹ c.put_remaining.ensures
