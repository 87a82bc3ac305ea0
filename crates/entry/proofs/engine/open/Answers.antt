-- `entry::engine::open` meets its contract. Assumes nothing.
use Rattle.entry.proofs.engine.open.Goals as goal

pub returns : goal.returns
returns c = rw (c.opening-answer.ensures, c.fresh.ensures)
