-- `parts::args::let_pat` meets its contract. Assumes nothing.
use Rattle.parts.specs.Args.{let_pat}
use Rattle.steps.proofs.Rules.{◌▹◌, byte_of, facts_of}
use Rattle.parts.proofs.args.let_pat.Goals as goal

pub returns : goal.returns
unfolding let_pat byte_of facts_of
returns c = c.word.ensures ▹ c.next_pat.ensures ▹ c.between.ensures
