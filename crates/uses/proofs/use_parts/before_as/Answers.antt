-- `uses::use_parts::before_as` meets its contract. Assumes nothing.
use Rattle.steps.proofs.Rules.{ap, not, ℕ, eqb, byte_of, facts_of, next_at, next_none}
use Rattle.uses.proofs.use_parts.before_as.Goals as goal

pub returns-in-Some : goal.returns-in-Some
unfolding byte_of facts_of
returns-in-Some c = next_at c.peek.ensures _ c.in-Some.is (ap (λ (n : ℕ). not (eqb n 62)) c.kind_at.ensures)

pub returns-in-None : goal.returns-in-None
unfolding byte_of facts_of
returns-in-None c = next_none c.peek.ensures _ c.in-None.is
