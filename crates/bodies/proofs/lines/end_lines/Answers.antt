-- `bodies::lines::end_lines` meets its contract. Assumes nothing.
use Rattle.bodies.proofs.{BodyLaws.lines_end}
use Rattle.bodies.proofs.lines.end_lines.Goals as goal

pub returns : goal.returns
returns c = lines_end _ c.comments.ensures c.lines.ensures c.nl.ensures c.indent.ensures
