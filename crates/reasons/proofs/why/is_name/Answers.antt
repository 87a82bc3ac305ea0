-- `reasons::why::is_name` meets its contract. Assumes nothing.
use Rattle.reasons.specs.Why.{is_name}
use Rattle.text.proofs.Base.{ne_eqb}
use Rattle.kinds.specs.Facts.{byte_of, facts_of}
use Rattle.reasons.proofs.why.is_name.Goals as goal

pub returns-then-kind-eq-ANON_KEY : goal.returns-then-kind-eq-ANON_KEY
unfolding is_name byte_of facts_of
returns-then-kind-eq-ANON_KEY c = rw c.if-kind-eq-ANON_KEY.true

pub returns-else-kind-eq-ANON_KEY : goal.returns-else-kind-eq-ANON_KEY
unfolding is_name byte_of facts_of
returns-else-kind-eq-ANON_KEY c = rw (ne_eqb _ _ c.if-kind-eq-ANON_KEY.false)
