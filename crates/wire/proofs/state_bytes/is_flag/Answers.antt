-- `wire::state_bytes::is_flag` meets its contract. Assumes nothing.
use Prim.Native.Nat.{ℕ}
use lib.Dec.{ltb}
use mathlib.Core.Path.{ap}
use Rattle.wire.proofs.state_bytes.is_flag.Goals as goal

pub returns : goal.returns
returns c = ap (λ (w : ℕ). ltb w 2) c.word.ensures
