-- The engine with the buffer that is lent to it, and what a call leaves of both. Assumes nothing.
use Rattle.std.specs.Prelude.{ℕ, List, length, take, Ok, Err}
use Rattle.std.proofs.lemmas.List.Edits.{sets}
use Rattle.meaning.specs.declared.call.Call.{Call}
use Rattle.meaning.specs.Answer.{Answer}
use Rattle.meaning.specs.State.{Script, State, fresh}
use Rattle.meaning.specs.Pieces.{flat}
use Rattle.meaning.specs.Outcome.{Outcome, done, refused}
use Rattle.meaning.specs.Lent.{serve, serve_record}

pub record World : Type 0 where
  pub state : State
  pub buffer : List ℕ

abbrev pub world : State → List ℕ → World
world s buf = record { state = s; buffer = buf }

abbrev pub opened : List ℕ → World
opened buf = world fresh buf

abbrev pub capacity : World → ℕ
capacity w = length w.buffer

abbrev pub output : World → List ℕ
output w = take w.state.len w.buffer

-- what is answered, and what is left
pub record Result : Type 0 where
  pub answer : Answer
  pub left : World

abbrev pub result : Answer → World → Result
result a w = record { answer = a; left = w }

-- the pieces go to the output's end; a refusal leaves everything
abbrev pub made : World → Outcome → Result
made w (done s ps) = result (Ok tt) (world s (sets w.buffer w.state.len (flat ps)))
made w (refused r) = result (Err r) w

module _ (opening : Answer) (x : Script) where
  unfoldable pub call : World → Call → Result
  call w c = made w (serve opening x (capacity w) w.state c)

  unfoldable pub call_record : World → List ℕ → Result
  call_record w bytes = made w (serve_record opening x (capacity w) w.state 0 bytes)
