-- `gaps::statements::group_end` meets its contract. Assumes nothing.
use Rattle.gaps.specs.Statements.{group_end}
use Rattle.steps.proofs.Rules.{byte_of, expected, facts_of, refl, step_not, step_so}
use Rattle.gaps.proofs.statements.group_end.Goals as goal

pub returns-then-empty : goal.returns-then-empty
unfolding group_end byte_of facts_of
returns-then-empty c = step_so _ _ refl c.if-empty.true (expected _ _ _ c.expect-k.ensures c.ignore.ensures)

pub returns : goal.returns
unfolding group_end byte_of facts_of
returns c = step_not _ _ refl c.if-empty.false c.token.ensures
