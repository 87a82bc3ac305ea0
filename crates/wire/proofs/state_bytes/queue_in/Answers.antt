-- `wire::state_bytes::queue_in` meets its contract. The invariant: i words are read, with zero behind them. Assumes nothing.
use mathlib.Core.Path.{refl}
use Rattle.wire.proofs.StateLaws.{read_end, read_start, read_turn}
use Rattle.wire.proofs.state_bytes.queue_in.Goals as goal

pub loop-i-init : goal.loop-i-init
loop-i-init c = read_start

pub loop-i-preserved : goal.loop-i-preserved
loop-i-preserved c = read_turn c.loop-i.invariant c.loop-i-test.true c.word.ensures refl

pub returns : goal.returns
returns c = read_end c.loop-i.invariant c.loop-i-test.false
