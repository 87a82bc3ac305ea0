-- `steps::remaining::put` meets its contract. Assumes nothing.
use Rattle.steps.proofs.{RestLaws.put_there, RestLaws.put_gone, RestLaws.put_fresh}
use Rattle.steps.proofs.remaining.put.Goals as goal

pub returns-in-Fresh : goal.returns-in-Fresh
returns-in-Fresh c = put_fresh c.args.mark c.in-Fresh.is

pub returns-in-Missing : goal.returns-in-Missing
returns-in-Missing c = put_gone c.args.mark c.in-Missing.is c.literal.ensures c.lit.ensures

pub returns-in-There : goal.returns-in-There
returns-in-There c = put_there c.args.mark c.in-There.is c.write_owned.ensures
