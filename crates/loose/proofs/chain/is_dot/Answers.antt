-- `loose::chain::is_dot` meets its contract. Assumes nothing.
use Rattle.loose.specs.Chain.{is_dot}
use Rattle.text.proofs.Base.{ne_eqb}
use Rattle.kinds.specs.Facts.{byte_of, facts_of}
use Rattle.loose.proofs.chain.is_dot.Goals as goal

pub returns-then-kind-eq-EXPR_FIELD : goal.returns-then-kind-eq-EXPR_FIELD
unfolding is_dot byte_of facts_of
returns-then-kind-eq-EXPR_FIELD c = rw c.if-kind-eq-EXPR_FIELD.true

pub returns-else-kind-eq-EXPR_FIELD : goal.returns-else-kind-eq-EXPR_FIELD
unfolding is_dot byte_of facts_of
returns-else-kind-eq-EXPR_FIELD c = rw (ne_eqb _ _ c.if-kind-eq-EXPR_FIELD.false)
