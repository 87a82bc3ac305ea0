-- `bench::history::asked` meets its contract. The call, or refusal 12. Assumes nothing.
use Rattle.lent.proofs.MadeLaws.{keeps}
use Rattle.bench.proofs.history.asked.Goals as goal

pub returns-in-Some : goal.returns-in-Some
returns-in-Some c = rw c.in-Some.is c.make_call.ensures

pub shape_of-out : goal.shape_of-out
shape_of-out c = keeps (returns-in-Some c)

pub returns-in-None : goal.returns-in-None
returns-in-None c = rw c.in-None.is (c.refuse.ensures.ran _ _ _)
