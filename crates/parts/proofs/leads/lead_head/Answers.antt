-- `parts::leads::lead_head` meets its contract. Assumes nothing.
use Rattle.parts.specs.Leads.{lead_head}
use Rattle.steps.proofs.Rules.{◌▹◌, byte_of, facts_of, ne_eqb, steady}
use Rattle.parts.proofs.leads.lead_head.Goals as goal

pub returns-then-kind-eq-EXPR_CLOSURE : goal.returns-then-kind-eq-EXPR_CLOSURE
unfolding lead_head byte_of facts_of
returns-then-kind-eq-EXPR_CLOSURE c = rw c.if-kind-eq-EXPR_CLOSURE.true (c.closure_args.ensures ▹ steady c.ws.ensures)

pub returns : goal.returns
unfolding lead_head byte_of facts_of
returns c = rw (ne_eqb _ _ c.if-kind-eq-EXPR_CLOSURE.false) c.jump_word.ensures
