-- What a call and a run leave, from the world w, where w' is left. Assumes nothing.
use Rattle.std.specs.Prelude.{◌≡◌, ◌-◌, take, drop, replicate}
use Rattle.meaning.specs.World.{World, capacity, output}

-- a success keeps the output and touches no byte beyond the new length
pub record Success (w w' : World) : Type 0 where
  pub size : capacity w' ≡ capacity w
  pub below : take w.state.len w'.buffer ≡ take w.state.len w.buffer
  pub beyond : drop w'.state.len w'.buffer ≡ drop w'.state.len w.buffer

-- a refused run: former state and length, former bytes below it, zero from there to the buffer's end
pub record RefusedRun (w w' : World) : Type 0 where
  pub state : w'.state ≡ w.state
  pub size : capacity w' ≡ capacity w
  pub below : output w' ≡ output w
  pub zero_beyond : drop w.state.len w'.buffer ≡ replicate (capacity w - w.state.len) 0
