-- `gaps::lines::close_lines` meets its contract. Assumes nothing.
use Rattle.gaps.specs.Lines.{close_lines}
use Rattle.lent.proofs.MadeLaws.{◌▹◌}
use Rattle.gaps.proofs.lines.close_lines.Goals as goal

pub returns : goal.returns
unfolding close_lines
returns c = c.nl.ensures ▹ c.comments.ensures ▹ c.indent.ensures
