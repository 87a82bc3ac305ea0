-- `gaps::blocks::before_block` meets its contract. Assumes nothing.
use Rattle.gaps.specs.Blocks.{before_block}
use Rattle.steps.proofs.Rules.{if_not, if_so, nothing_made}
use Rattle.gaps.proofs.blocks.before_block.Goals as goal

pub returns-then-is_mod : goal.returns-then-is_mod
unfolding before_block
returns-then-is_mod c = if_so _ _ c.is_mod.ensures c.if-is_mod.true c.ws.ensures

pub returns-else-is_mod : goal.returns-else-is_mod
unfolding before_block
returns-else-is_mod c = if_not _ _ c.is_mod.ensures c.if-is_mod.false nothing_made
