-- `loose::wide::width_of` meets its contract. Assumes nothing.
use Rattle.width.proofs.Laws.{width_of_lem}
use Rattle.loose.proofs.wide.width_of.Goals as goal

pub returns : goal.returns
returns c = width_of_lem c.args.src.now c.args.span c.args.limit c.part.ensures c.count.ensures
