-- `bodies::lines::before_line` meets its contract. Assumes nothing.
use Rattle.lent.proofs.MadeLaws.{◌▹◌}
use Rattle.bodies.proofs.lines.before_line.Goals as goal

pub returns : goal.returns
returns c = c.nl.ensures ▹ c.comments.ensures
