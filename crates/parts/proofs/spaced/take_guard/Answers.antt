-- `parts::spaced::take_guard` meets its contract. Assumes nothing.
use Rattle.parts.proofs.LabelLaws.{guard_any, guard_expr}
use Rattle.steps.proofs.Rules.{byte_of, facts_of}
use Rattle.parts.proofs.spaced.take_guard.Goals as goal

pub returns-then-kind-eq-KW_IF : goal.returns-then-kind-eq-KW_IF
unfolding byte_of facts_of
returns-then-kind-eq-KW_IF c = guard_expr _ c.if-kind-eq-KW_IF.true c.expect_expr.ensures

pub returns : goal.returns
unfolding byte_of facts_of
returns c = guard_any _ c.if-kind-eq-KW_IF.false c.pump.ensures
