-- `parts::links::end_chain` meets its contract. Assumes nothing.
use Rattle.parts.specs.Links.{chain_end}
use Rattle.steps.proofs.Rules.{if_not, if_so, nothing_made, refl}
use Rattle.text.proofs.Base.{le-ltb, lt-ltb}
use Rattle.parts.proofs.links.end_chain.Goals as goal

pub returns-then-from-n : goal.returns-then-from-n
unfolding chain_end
returns-then-from-n c = if_so _ _ refl (lt-ltb _ _ c.if-from-n.true) c.indent.ensures

pub returns-else-from-n : goal.returns-else-from-n
unfolding chain_end
returns-else-from-n c = if_not _ _ refl (le-ltb _ _ c.if-from-n.false) nothing_made
