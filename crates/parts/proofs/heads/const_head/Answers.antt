-- `parts::heads::const_head` meets its contract. Assumes nothing.
use Rattle.parts.specs.Heads.{const_head}
use Rattle.steps.proofs.Rules.{◌▹◌, byte_of, facts_of}
use Rattle.parts.proofs.heads.const_head.Goals as goal

pub returns : goal.returns
unfolding const_head byte_of facts_of
returns c = c.any.ensures ▹ c.between.ensures
