-- `gaps::statements::before_semi` meets its contract. Assumes nothing.
use Rattle.gaps.proofs.StatementLaws.{semi_needed, semi_none, semi_there}
use Rattle.gaps.proofs.statements.before_semi.Goals as goal
use Rattle.gaps.proofs.statements.before_semi.Goals.{then-needed-via-then-needed, then-needed-via-else-needed+then-is_present}

pub returns-then-needed : goal.returns-then-needed
returns-then-needed c =
    elim c.then-needed.branch [
      | then-needed-via-then-needed w ↦ semi_needed _ w.if-needed.true c.comments.ensures
      | then-needed-via-else-needed+then-is_present w ↦ semi_there _ w.if-needed.false (w.is_present.ensures _) w.if-is_present.true c.comments.ensures
    ]

pub returns-else-is_present : goal.returns-else-is_present
returns-else-is_present c = semi_none _ c.if-needed.false (c.is_present.ensures _) c.if-is_present.false
