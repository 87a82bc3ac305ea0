-- `gaps::statements::gap` meets its contract. Assumes nothing.
use Rattle.gaps.proofs.StatementLaws.{gap_first, gap_lines}
use Rattle.gaps.proofs.statements.gap.Goals as goal

pub returns-then-last-ne0 : goal.returns-then-last-ne0
returns-then-last-ne0 c = gap_lines _ _ c.if-last-ne0.true c.class_at.ensures c.class_at-then-last-ne0.ensures c.lines.ensures c.nl.ensures

pub returns-else-last-ne0 : goal.returns-else-last-ne0
returns-else-last-ne0 c = gap_first _ c.if-last-ne0.false
