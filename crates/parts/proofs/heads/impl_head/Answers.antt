-- `parts::heads::impl_head` meets its contract. Assumes nothing.
use Rattle.parts.specs.Heads.{impl_head}
use Rattle.steps.proofs.Rules.{◌▹◌, byte_of, facts_of, steady}
use Rattle.parts.proofs.heads.impl_head.Goals as goal

pub returns : goal.returns
unfolding impl_head byte_of facts_of
returns c = c.word.ensures ▹ c.next_path.ensures ▹ steady c.ws.ensures
