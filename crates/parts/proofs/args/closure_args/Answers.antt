-- `parts::args::closure_args` meets its contract. Assumes nothing.
use Rattle.parts.specs.Args.{closure_args}
use Rattle.steps.proofs.Rules.{byte_of, facts_of, next_not, next_so, pumped, steady}
use Rattle.parts.proofs.args.closure_args.Goals as goal

pub returns-then-next_is : goal.returns-then-next_is
unfolding closure_args byte_of facts_of
returns-then-next_is c = next_so _ _ _ c.next_is.ensures c.if-next_is.true (pumped _ c.pump-k.ensures c.bars.ensures)

pub returns : goal.returns
unfolding closure_args byte_of facts_of
returns c = next_not _ _ _ c.next_is.ensures c.if-next_is.false (steady c.lit.ensures)
