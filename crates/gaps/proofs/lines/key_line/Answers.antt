-- `gaps::lines::key_line` meets its contract. Assumes nothing.
use Rattle.gaps.specs.Lines.{key_line}
use Rattle.steps.proofs.Rules.{◌▹◌, steady}
use Rattle.gaps.proofs.lines.key_line.Goals as goal

pub returns : goal.returns
unfolding key_line
returns c = steady c.comments.ensures ▹ c.any.ensures
