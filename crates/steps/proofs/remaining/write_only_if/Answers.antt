-- `steps::remaining::write_only_if` meets its contract. Assumes nothing.
use Rattle.steps.proofs.RestLaws.{only_no, only_yes}
use Rattle.steps.proofs.remaining.write_only_if.Goals as goal

pub returns-then-wanted : goal.returns-then-wanted
returns-then-wanted c = only_yes _ c.if-wanted.true c.put.ensures

pub returns-else-wanted : goal.returns-else-wanted
returns-else-wanted c = only_no _ c.if-wanted.false (c.pass.ensures _)
