-- `savetnuok::savetnuok_run` meets its contract: it is `laid`, told what is wanted. Assumes nothing.
use Rattle.savetnuok.proofs.savetnuok_run.Goals as goal

pub returns : goal.returns
returns c = c.laid.ensures
