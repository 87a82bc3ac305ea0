-- `parts::leads::lead_takes` meets its contract. Assumes nothing.
use Rattle.parts.proofs.LabelLaws.{takes_expr, takes_none}
use Rattle.steps.proofs.Rules.{byte_of, facts_of, refl, stream_at, tree_of}
use Rattle.parts.proofs.leads.lead_takes.Goals as goal

pub returns-then-kind-ne-EXPR_CONTINUE : goal.returns-then-kind-ne-EXPR_CONTINUE
unfolding byte_of facts_of
returns-then-kind-ne-EXPR_CONTINUE c = takes_expr _ (stream_at (tree_of c.args.table.now) c.args.p.now) c.if-kind-ne-EXPR_CONTINUE.true c.next_expr.ensures

pub returns-else-kind-ne-EXPR_CONTINUE : goal.returns-else-kind-ne-EXPR_CONTINUE
unfolding byte_of facts_of
returns-else-kind-ne-EXPR_CONTINUE c = rw c.if-kind-ne-EXPR_CONTINUE.false (takes_none _ (stream_at (tree_of c.args.table.now) c.args.p.now) refl)
