-- `reasons::why::is_list` meets its contract. Assumes nothing.
use Rattle.reasons.specs.Why.{is_list}
use Rattle.text.proofs.Base.{ne_eqb}
use Rattle.kinds.specs.Facts.{byte_of, facts_of}
use Rattle.reasons.proofs.why.is_list.Goals as goal

pub returns-then-kind-eq-EXPR_CALL : goal.returns-then-kind-eq-EXPR_CALL
unfolding is_list byte_of facts_of
returns-then-kind-eq-EXPR_CALL c = rw c.if-kind-eq-EXPR_CALL.true

pub returns-else-kind-eq-EXPR_CALL : goal.returns-else-kind-eq-EXPR_CALL
unfolding is_list byte_of facts_of
returns-else-kind-eq-EXPR_CALL c = rw (ne_eqb _ _ c.if-kind-eq-EXPR_CALL.false)
