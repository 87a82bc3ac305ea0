-- `parts::links::indent_first` meets its contract. Assumes nothing.
use Rattle.parts.specs.Links.{indent_first}
use Rattle.steps.proofs.Rules.{if_not, if_so, ne_eqb, nothing_made, refl}
use Rattle.text.proofs.Base.{eq-eqb}
use Rattle.parts.proofs.links.indent_first.Goals as goal

pub returns-then-n-from : goal.returns-then-n-from
unfolding indent_first
returns-then-n-from c = if_so _ _ refl (eq-eqb _ _ c.if-n-from.true) c.indent.ensures

pub returns-else-n-from : goal.returns-else-n-from
unfolding indent_first
returns-else-n-from c = if_not _ _ refl (ne_eqb _ _ c.if-n-from.false) nothing_made
