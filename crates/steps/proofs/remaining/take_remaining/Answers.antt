-- `steps::remaining::take_remaining` meets its contract. Assumes nothing.
use Rattle.tree.specs.Table.{tree_of}
use Rattle.walk.specs.Stream.{stream_at}
use Rattle.steps.proofs.{RestLaws.rests_at, RestLaws.rests_none}
use Rattle.steps.proofs.remaining.take_remaining.Goals as goal

pub returns-in-Some : goal.returns-in-Some
returns-in-Some c = rests_at (tree_of c.args.table.now) c.args.mark (stream_at (tree_of c.args.table.now) c.args.p.now) c.token.ensures c.eat.ensures c.in-Some.is c.once.ensures

pub returns-in-None : goal.returns-in-None
returns-in-None c = rests_none (tree_of c.args.table.now) c.args.mark (stream_at (tree_of c.args.table.now) c.args.p.now) c.token.ensures c.eat.ensures c.in-None.is
