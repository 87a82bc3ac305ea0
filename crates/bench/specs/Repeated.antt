-- The calls of a run or of a whole layout made again and again, each time on a fresh engine. Assumes nothing.
use Rattle.std.specs.Prelude.{◌≡◌, ℕ, zero, suc, List, Ok}
use Rattle.meaning.specs.State.{Script}
use Rattle.meaning.specs.World.{opened, Result, result}
use Rattle.meaning.specs.Plan.{Plan, exec}
use Rattle.rules.specs.Rules.{layout}
use Rattle.bench.specs.Packed.{reached_as}
use Rattle.bench.specs.History.{script_at}

-- over the buffer b, so many times; each begins over the bytes that the one before left
unfoldable pub repeated : Script → Plan → ℕ → List ℕ → Result
repeated x p zero b = result (Ok tt) (opened b)
repeated x p (suc n) b = exec x p (result (Ok tt) (opened (repeated x p n b).left.buffer))

-- the calls of a plan, which hangs on the script
abbrev pub laid_out : List ℕ → List ℕ → List ℕ → (Script → Plan) → ℕ → Result
laid_out src tree b plan n = let x = script_at src tree in repeated x (plan x) n b

-- the number that comes back and the whole buffer are those of the last
pub record Repeats (src tree b : List ℕ) (plan : Script → Plan) (times n : ℕ) (b' : List ℕ) : Type 0 where
  pub number : n ≡ reached_as (laid_out src tree b plan times).answer (laid_out src tree b plan times).left.state.len
  pub buffer : b' ≡ (laid_out src tree b plan times).left.buffer

-- of a run on node k
abbrev pub on_node : ℕ → Script → Plan
on_node k x = layout x (record { 0 = k })
