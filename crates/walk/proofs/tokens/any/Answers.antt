-- `walk::tokens::any` meets its contract. Assumes nothing.
use Rattle.walk.proofs.{FlowLaws.pumped}
use Rattle.walk.proofs.tokens.any.Goals as goal

pub returns : goal.returns
returns c = pumped _ c.pump-k.ensures c.write_owned.ensures
