-- `entry::engine::call` meets its contract. Assumes nothing.
use Rattle.entry.proofs.ServeLaws.{call_served}
use Rattle.entry.proofs.engine.call.Goals as goal

pub returns : goal.returns
returns c = call_served c.args.source.now c.args.tree.now c.args.s c.args.out.now c.args.c c.served.ensures
