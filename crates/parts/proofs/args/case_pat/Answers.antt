-- `parts::args::case_pat` meets its contract. Assumes nothing.
use Rattle.parts.specs.Args.{case_pat}
use Rattle.steps.proofs.Rules.{◌▹◌, byte_of, facts_of, steady}
use Rattle.parts.proofs.args.case_pat.Goals as goal

pub returns : goal.returns
unfolding case_pat byte_of facts_of
returns c = steady c.nl.ensures ▹ steady c.comments.ensures ▹ c.next_pat.ensures
