-- `parts::heads::let_head` meets its contract. Assumes nothing.
use Rattle.steps.proofs.Rules.{◌▹◌}
use Rattle.parts.proofs.heads.let_head.Goals as goal

pub returns-then-local : goal.returns-then-local
returns-then-local c = rw c.if-local.true (c.attributes.ensures ▹ c.modifiers.ensures ▹ c.let_pat.ensures)

pub returns : goal.returns
returns c = rw c.if-local.false c.let_pat-2.ensures
