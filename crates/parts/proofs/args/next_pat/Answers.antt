-- `parts::args::next_pat` meets its contract. Assumes nothing.
use Rattle.steps.proofs.Rules.{byte_of, expected, facts_of}
use Rattle.parts.proofs.args.next_pat.Goals as goal

pub returns : goal.returns
unfolding byte_of facts_of
returns c = expected _ _ _ c.expect-k.ensures c.pat.ensures
