-- `patterns::pat_parts::pat_lit` meets its contract. Assumes nothing.
use Rattle.steps.proofs.Rules.{byte_of, facts_of, ◌▹◌, parsed}
use Rattle.patterns.specs.Pattern.{pat_lit}
use Rattle.patterns.proofs.pat_parts.pat_lit.Goals as goal

pub returns : goal.returns
unfolding pat_lit byte_of facts_of
returns c = parsed _ _ c.records_of-p.ensures (c.token_if.ensures ▹ c.any.ensures) c.left_over.ensures
