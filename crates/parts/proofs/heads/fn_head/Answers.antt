-- `parts::heads::fn_head` meets its contract. Assumes nothing.
use Rattle.parts.specs.Heads.{fn_head}
use Rattle.steps.proofs.Rules.{◌▹◌, byte_of, facts_of, steady}
use Rattle.parts.proofs.heads.fn_head.Goals as goal

pub returns : goal.returns
unfolding fn_head byte_of facts_of
returns c = c.token.ensures ▹ c.spaced_if.ensures ▹ c.args_of.ensures ▹ steady c.ws.ensures
