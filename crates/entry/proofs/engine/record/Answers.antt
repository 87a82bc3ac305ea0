-- `entry::engine::record` meets its contract. Assumes nothing.
use Rattle.entry.proofs.ServeLaws.{record_served}
use Rattle.entry.proofs.engine.record.Goals as goal

pub returns : goal.returns
returns c = record_served c.args.source.now c.args.tree.now c.args.s c.args.out.now c.args.bytes.now c.decode.ensures c.served.ensures
