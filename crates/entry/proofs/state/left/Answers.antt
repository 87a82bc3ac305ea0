-- `entry::state::left` meets its contract. Assumes nothing.
use Rattle.text.proofs.Base.{◌∙◌, sym}
use Rattle.lent.proofs.StopLaws.{goes}
use Rattle.entry.proofs.{ServeLaws.left_open, ServeLaws.left_stopped}
use Rattle.entry.proofs.state.left.Goals as goal

pub returns-then-stopped : goal.returns-then-stopped
returns-then-stopped c = left_stopped c.args.s c.args.fmt.now c.args.queue.now (sym c.stopped.ensures ∙ c.if-stopped.true)

pub returns : goal.returns
returns c = rw c.now_of-now.ensures (left_open c.args.s c.args.fmt.now c.args.queue.now _ (goes c.stopped.ensures c.if-stopped.false) c.tidy-queue.ensures)
