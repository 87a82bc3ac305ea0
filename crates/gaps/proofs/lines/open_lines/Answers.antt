-- `gaps::lines::open_lines` meets its contract. Assumes nothing.
use Rattle.gaps.specs.Lines.{open_lines}
use Rattle.lent.proofs.MadeLaws.{◌▹◌}
use Rattle.gaps.proofs.lines.open_lines.Goals as goal

pub returns : goal.returns
unfolding open_lines
returns c = c.nl.ensures ▹ c.indent.ensures
