-- `wire::state_bytes::flag` meets its contract. Assumes nothing.
use Prim.Native.Nat.{ℕ}
use lib.Dec.{eqb}
use mathlib.Core.Path.{ap}
use Rattle.wire.proofs.state_bytes.flag.Goals as goal

pub returns : goal.returns
returns c = ap (λ (w : ℕ). eqb w 1) c.word.ensures
