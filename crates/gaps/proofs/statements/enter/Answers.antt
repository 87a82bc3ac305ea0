-- `gaps::statements::enter` meets its contract. Assumes nothing.
use Rattle.gaps.specs.Statements.{enter}
use Rattle.steps.proofs.Rules.{if_not, if_so, refl}
use Rattle.lent.proofs.MadeLaws.{◌▹◌}
use Rattle.gaps.proofs.statements.enter.Goals as goal

pub returns-then-spread : goal.returns-then-spread
unfolding enter
returns-then-spread c = if_so _ _ refl c.if-spread.true (c.indent.ensures ▹ c.nl.ensures ▹ c.comments.ensures)

pub returns : goal.returns
unfolding enter
returns c = if_not _ _ refl c.if-spread.false c.comments-2.ensures
