-- `parts::args::default_or_pat` meets its contract. Assumes nothing.
use Rattle.parts.specs.Args.{default_or_pat}
use Rattle.steps.proofs.Rules.{byte_of, facts_of, next_not, next_so}
use Rattle.parts.proofs.args.default_or_pat.Goals as goal

pub returns-then-next_is : goal.returns-then-next_is
unfolding default_or_pat byte_of facts_of
returns-then-next_is c = next_so _ _ _ c.next_is.ensures c.if-next_is.true c.token.ensures

pub returns : goal.returns
unfolding default_or_pat byte_of facts_of
returns c = next_not _ _ _ c.next_is.ensures c.if-next_is.false c.next_pat.ensures
