-- `parts::args::for_in` meets its contract. Assumes nothing.
use Rattle.parts.specs.Args.{for_in}
use Rattle.steps.proofs.Rules.{◌▹◌, byte_of, facts_of}
use Rattle.parts.proofs.args.for_in.Goals as goal

pub returns : goal.returns
unfolding for_in byte_of facts_of
returns c = c.word.ensures ▹ c.next_pat.ensures ▹ c.between.ensures
