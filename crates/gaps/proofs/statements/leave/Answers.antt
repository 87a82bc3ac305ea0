-- `gaps::statements::leave` meets its contract. Assumes nothing.
use Rattle.gaps.specs.Statements.{leave}
use Rattle.steps.proofs.Rules.{if_not, if_so, refl}
use Rattle.lent.proofs.MadeLaws.{◌▹◌}
use Rattle.gaps.proofs.statements.leave.Goals as goal

pub returns-then-spread : goal.returns-then-spread
unfolding leave
returns-then-spread c = if_so _ _ refl c.if-spread.true (c.nl.ensures ▹ c.comments.ensures ▹ c.nl-then-spread.ensures ▹ c.indent.ensures)

pub returns : goal.returns
unfolding leave
returns c = if_not _ _ refl c.if-spread.false c.comments-2.ensures
