-- `parts::heads::mod_head` meets its contract. Assumes nothing.
use Rattle.parts.specs.Heads.{mod_head}
use Rattle.steps.proofs.Rules.{◌▹◌, byte_of, facts_of}
use Rattle.parts.proofs.heads.mod_head.Goals as goal

pub returns : goal.returns
unfolding mod_head byte_of facts_of
returns c = c.word.ensures ▹ c.any.ensures
