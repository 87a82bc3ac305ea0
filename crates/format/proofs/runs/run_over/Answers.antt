-- `format::runs::run_over` meets its contract. Assumes nothing.
use Rattle.entry.proofs.RunLaws.{ran_begun}
use Rattle.format.specs.Laid.{plan_of}
use Rattle.steps.proofs.Rules.{List, Record}
use Rattle.format.proofs.runs.run_over.Goals as goal

pub returns-in-Node : goal.returns-in-Node
returns-in-Node c = record { out = ran_begun c.args.source.now c.args.tree.now c.args.words.now _ c.decode-n.result c.decode-n.ensures c.requires.0 c.args.fmt.now c.args.queue.now c.args.out.now c.requires.1 _ c.lent.ensures c.stops.ensures (λ (rs : List Record). plan_of (record { source = c.args.source.now; tree = rs }) c.args.w) c.first.ensures (rw c.in-Node.is c.layout.ensures) }

pub returns-in-All : goal.returns-in-All
returns-in-All c = record { out = ran_begun c.args.source.now c.args.tree.now c.args.words.now _ c.decode-n.result c.decode-n.ensures c.requires.0 c.args.fmt.now c.args.queue.now c.args.out.now c.requires.1 _ c.lent.ensures c.stops.ensures (λ (rs : List Record). plan_of (record { source = c.args.source.now; tree = rs }) c.args.w) c.first-in-All.ensures (rw c.in-All.is c.whole.ensures) }
