-- `walk::tokens::token` meets its contract. Assumes nothing.
use Rattle.walk.proofs.{FlowLaws.expected}
use Rattle.walk.proofs.tokens.token.Goals as goal

pub returns : goal.returns
returns g c = expected _ _ _ c.expect-k.ensures c.write_owned.ensures
