-- The end of a run: what is handed back, and the buffer; a refused run is put back and its bytes are zeroed. Assumes nothing.
use Rattle.std.specs.Prelude.{◌≡◌, ℕ, List, length, Ok, Err}
use Rattle.meaning.specs.Answer.{Answer}
use Rattle.meaning.specs.World.{world, Result}
use Rattle.meaning.specs.Plan.{Plan, zeroed, run}
use Rattle.meaning.specs.Opening.{script_in, opening}
use Rattle.lent.specs.declared.formatter.Formatter.{Formatter}
use Rattle.lent.specs.Run.{ready_run}
use Rattle.entry.specs.declared.state.State as code
use Rattle.entry.specs.declared.state.Step.{Step}
use Rattle.lent.specs.View.{view, result_of}
use Rattle.entry.specs.Served.{left_of, state_of, lent_run}

-- where a run begins: the lent scalars w, past the checks on what is lent and 10
unfoldable pub begun : List ℕ → Formatter → List ℕ → List ℕ → Result
begun src w q b = result_of (ready_run (lent_run src q (length b) w)) q b

-- n is the output's length before the run
abbrev pub ended_buffer : Answer → ℕ → List ℕ → List ℕ
ended_buffer (Ok tt) n b = b
ended_buffer (Err e) n b = zeroed n b

pub record Ended (s : code.State) (r : Formatter) (q b : List ℕ) (z : Step) (b' : List ℕ) : Type 0 where
  pub step : z ≡ left_of s r.answer (view r q)
  pub buffer : b' ≡ ended_buffer r.answer s.now.len b

-- a run of the plan p, from the lent state s and the buffer b
abbrev pub run_left : List ℕ → List ℕ → code.State → List ℕ → Plan → Result
run_left src tree s b p = run (opening src tree) (script_in src tree) (world (state_of s) b) p
