-- `parts::leads::before_value` meets its contract. Assumes nothing.
use Rattle.parts.specs.Leads.{before_value}
use Rattle.steps.proofs.Rules.{byte_of, facts_of, if_not, if_so, ne_eqb, nothing_made, refl}
use Rattle.text.proofs.Base.{eq-eqb}
use Rattle.parts.proofs.leads.before_value.Goals as goal

pub returns-then-kind-eq-EXPR_CLOSURE : goal.returns-then-kind-eq-EXPR_CLOSURE
unfolding before_value byte_of facts_of
returns-then-kind-eq-EXPR_CLOSURE c = if_so _ _ refl (eq-eqb _ _ c.if-kind-eq-EXPR_CLOSURE.true) nothing_made

pub returns : goal.returns
unfolding before_value byte_of facts_of
returns c = if_not _ _ refl (ne_eqb _ _ c.if-kind-eq-EXPR_CLOSURE.false) c.ws.ensures
