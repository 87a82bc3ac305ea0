-- `lent::formatter::Formatter::refuse` meets its contract. Assumes nothing.
use Rattle.lent.proofs.{MadeLaws.refused_before, MadeLaws.refused_now}
use Rattle.lent.proofs.formatter.Formatter.refuse.Goals as goal

pub returns-then-not-stopped : goal.returns-then-not-stopped
returns-then-not-stopped c = refused_now _ c.stopped.ensures c.if-not-stopped.true c.refused.ensures

pub returns-else-not-stopped : goal.returns-else-not-stopped
returns-else-not-stopped c = refused_before _ c.stopped.ensures c.if-not-stopped.false
