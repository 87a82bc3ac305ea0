-- `gaps::lines::end_entry` meets its contract. Assumes nothing.
use Rattle.gaps.specs.Lines.{end_entry}
use Rattle.steps.proofs.Rules.{◌▹◌, steady}
use Rattle.gaps.proofs.lines.end_entry.Goals as goal

pub returns : goal.returns
unfolding end_entry
returns c = c.put_remaining.ensures ▹ steady c.nl.ensures
