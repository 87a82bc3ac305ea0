-- `parts::labels::before_expr` meets its contract: where none of the three is next, nothing is done. Assumes nothing.
use Rattle.parts.specs.Labels.{before_expr}
use Rattle.parts.proofs.LabelLaws.{not_preceded}
use Rattle.steps.proofs.Rules.{◌▹◌}
use Rattle.parts.proofs.labels.before_expr.Goals as goal

pub returns-then-not-preceded : goal.returns-then-not-preceded
returns-then-not-preceded c = not_preceded _ _ c.preceded.ensures c.if-not-preceded.true

pub returns : goal.returns
unfolding before_expr
returns c = c.pat_attributes.ensures ▹ c.modifiers.ensures ▹ c.expr_labels.ensures
