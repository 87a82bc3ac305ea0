-- `wire::state_bytes::read_state` meets its contract. Assumes nothing.
use Rattle.wire.proofs.state_bytes.read_state.Goals as goal

pub returns : goal.returns
returns c = (rw (c.read_now.ensures.0, c.queue_in.ensures), c.read_now.ensures.1)
