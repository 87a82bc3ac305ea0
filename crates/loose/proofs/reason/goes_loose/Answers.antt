-- `loose::reason::goes_loose` meets its contract. Assumes nothing.
use Rattle.loose.proofs.ReasonLaws.{by_crowd, too_wide}
use Rattle.loose.specs.Reason.{is_loose}
use Rattle.lent.specs.View.{script_of}
use Rattle.text.proofs.Base.{◌∙◌, ap, refl}
use Rattle.loose.proofs.reason.goes_loose.Goals as goal

pub returns-then-is_wide : goal.returns-then-is_wide
returns-then-is_wide c = c.if-is_wide.true ∙ ap is_loose (too_wide (script_of c.args.src.now c.args.table.now) _ c.args.k c.args.from.0 (rw c.node.ensures at c.is_wide.ensures) c.if-is_wide.true refl)

pub returns-else-is_wide : goal.returns-else-is_wide
returns-else-is_wide c = c.is_some.ensures ∙ ap is_loose (by_crowd (script_of c.args.src.now c.args.table.now) _ c.args.k c.args.from.0 (rw c.node.ensures at c.is_wide.ensures) c.if-is_wide.false c.crowd.ensures)
