-- `walk::tokens::token_if` meets its contract. Assumes nothing.
use Rattle.walk.proofs.{FlowLaws.eaten, FlowLaws.eaten_not}
use Rattle.walk.proofs.tokens.token_if.Goals as goal

pub returns-in-Some : goal.returns-in-Some
returns-in-Some g c = eaten _ _ _ c.eat.ensures c.in-Some.is c.write_owned.ensures

pub returns-in_default : goal.returns-in_default
returns-in_default g c = eaten_not _ _ _ c.eat.ensures c.in_default.not-Some
