-- `parts::links::break_link` meets its contract. Assumes nothing.
use Rattle.parts.specs.Links.{break_link}
use Rattle.steps.proofs.Rules.{if_not, if_so, nothing_made, refl}
use Rattle.text.proofs.Base.{le-ltb, lt-ltb}
use Rattle.lent.proofs.MadeLaws.{◌▹◌}
use Rattle.parts.proofs.links.break_link.Goals as goal

pub returns-then-n-from : goal.returns-then-n-from
unfolding break_link
returns-then-n-from c = if_so _ _ refl (lt-ltb _ _ c.if-n-from.true) nothing_made

pub returns-then-is_dot : goal.returns-then-is_dot
unfolding break_link
returns-then-is_dot c = if_not _ _ refl (le-ltb _ _ c.if-n-from.false) (c.indent_first.ensures ▹ if_so _ _ (rw c.kind_at.ensures at c.is_dot.ensures) c.if-is_dot.true c.nl.ensures)

pub returns-else-is_dot : goal.returns-else-is_dot
unfolding break_link
returns-else-is_dot c = if_not _ _ refl (le-ltb _ _ c.if-n-from.false) (c.indent_first.ensures ▹ if_not _ _ (rw c.kind_at.ensures at c.is_dot.ensures) c.if-is_dot.false nothing_made)
