-- `steps::remaining::pass` meets its contract. Assumes nothing.
use Rattle.steps.proofs.{RestLaws.pass_there, RestLaws.pass_not}
use Rattle.steps.proofs.remaining.pass.Goals as goal

pub returns-in-There : goal.returns-in-There
returns-in-There c = λ m. pass_there m c.in-There.is c.ignore.ensures

pub returns-in_default : goal.returns-in_default
returns-in_default c = λ m. pass_not m c.in_default.not-There
