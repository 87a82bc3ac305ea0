-- `paths::modifier::apart` meets its contract. Assumes nothing.
use Rattle.paths.proofs.{ModifierLaws.apart_so, ModifierLaws.apart_not}
use Rattle.paths.proofs.modifier.apart.Goals as goal

pub returns-then-any : goal.returns-then-any
returns-then-any c = apart_so c.if-any.true c.ws.ensures

pub returns-else-any : goal.returns-else-any
returns-else-any c = apart_not c.if-any.false
