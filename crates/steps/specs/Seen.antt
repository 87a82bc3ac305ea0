-- Loops that ask whether there was an item: the Rust's `any`, and its `empty`. Assumes nothing.
use Rattle.std.specs.Prelude.{ℕ, Bool, true, false}
use Rattle.meaning.specs.Plan.{Plan, nothing}
use Rattle.walk.specs.Stream.{Stream}
use Rattle.walk.specs.Flow.{Flow, flow, ◌▸◌}
use Rattle.walk.specs.Loop.{loop}

-- the records left, and whether an item stood before them
pub record Seen : Type 0 where
  pub rest : Stream
  pub any : Bool

abbrev pub seen : Stream → Bool → Seen
seen s any = record { rest = s; any = any }

unfoldable pub none_yet : Stream → Flow Seen
none_yet s = flow nothing (seen s false)

-- an item, by whether one stood before it
unfoldable pub another : (Bool → Stream → Flow Stream) → Seen → Flow Seen
another f s = let a = f s.any s.rest in flow a.plan (seen a.rest true)

-- the items, as long as the next record is wanted
unfoldable pub each : (ℕ → Bool) → (Bool → Stream → Flow Stream) → Stream → Flow Seen
each want f = none_yet ▸ loop (λ (s : Seen). s.rest) want (another f)

-- what is done behind the last
unfoldable pub lastly : (Bool → Plan) → Seen → Flow Stream
lastly g s = flow (g s.any) s.rest
