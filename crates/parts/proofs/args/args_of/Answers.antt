-- `parts::args::args_of` meets its contract. Assumes nothing.
use Rattle.parts.specs.Args.{args_of}
use Rattle.steps.proofs.Rules.{byte_of, facts_of, next_not, next_so, pumped, steady}
use Rattle.parts.proofs.args.args_of.Goals as goal

pub returns-then-next_is : goal.returns-then-next_is
unfolding args_of byte_of facts_of
returns-then-next_is c = next_so _ _ _ c.next_is.ensures c.if-next_is.true (pumped _ c.pump-k.ensures c.fn_args.ensures)

pub returns : goal.returns
unfolding args_of byte_of facts_of
returns c = next_not _ _ _ c.next_is.ensures c.if-next_is.false (steady c.lit.ensures)
