-- `loose::reason::why_loose` meets its contract. Assumes nothing.
use Rattle.loose.proofs.ReasonLaws.{by_crowd, too_wide}
use Rattle.lent.specs.View.{script_of}
use Rattle.loose.proofs.reason.why_loose.Goals as goal

pub returns-then-is_wide : goal.returns-then-is_wide
returns-then-is_wide c = too_wide (script_of c.args.src.now c.args.table.now) _ c.args.k c.args.from.0 (rw c.node.ensures at c.is_wide.ensures) c.if-is_wide.true (rw c.node.ensures at c.place_in.ensures)

pub returns : goal.returns
returns c = by_crowd (script_of c.args.src.now c.args.table.now) _ c.args.k c.args.from.0 (rw c.node.ensures at c.is_wide.ensures) c.if-is_wide.false c.crowd.ensures
