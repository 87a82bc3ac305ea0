-- `gaps::blocks::no_block` meets its contract. Assumes nothing.
use Rattle.gaps.specs.Blocks.{no_block}
use Rattle.steps.proofs.Rules.{byte_of, facts_of, if_not, if_so, ne_eqb, nothing_made, refl}
use Rattle.text.proofs.Base.{eq-eqb}
use Rattle.lent.proofs.MadeLaws.{◌▹◌}
use Rattle.gaps.proofs.blocks.no_block.Goals as goal

pub returns-then-kind-eq-ITEM_FN : goal.returns-then-kind-eq-ITEM_FN
unfolding no_block byte_of facts_of
returns-then-kind-eq-ITEM_FN c = if_so _ _ refl (eq-eqb _ _ c.if-kind-eq-ITEM_FN.true) (c.lit.ensures ▹ c.nl.ensures ▹ c.lit-then-kind-eq-ITEM_FN.ensures)

pub returns-else-kind-eq-ITEM_FN : goal.returns-else-kind-eq-ITEM_FN
unfolding no_block byte_of facts_of
returns-else-kind-eq-ITEM_FN c = if_not _ _ refl (ne_eqb _ _ c.if-kind-eq-ITEM_FN.false) nothing_made
