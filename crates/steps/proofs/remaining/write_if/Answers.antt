-- `steps::remaining::write_if` meets its contract. Assumes nothing.
use Rattle.steps.proofs.RestLaws.{if_needed, if_neither, if_present}
use Rattle.steps.proofs.remaining.write_if.Goals.{then-needed-via-then-needed, then-needed-via-else-needed+then-is_present}
use Rattle.steps.proofs.remaining.write_if.Goals as goal

pub returns-then-needed : goal.returns-then-needed
returns-then-needed c =
    elim c.then-needed.branch [
      | then-needed-via-then-needed w ↦ if_needed _ w.if-needed.true c.put.ensures
      | then-needed-via-else-needed+then-is_present w ↦ if_present _ w.if-needed.false (w.is_present.ensures _) w.if-is_present.true c.put.ensures
    ]

pub returns-else-is_present : goal.returns-else-is_present
returns-else-is_present c = if_neither _ c.if-needed.false (c.is_present.ensures _) c.if-is_present.false
