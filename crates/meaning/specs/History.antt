-- Histories: calls, call records and runs, in any order, over one source, tree and buffer. Assumes nothing.
use Rattle.std.specs.Prelude.{ℕ, List, [], ◌∷◌, ◌++◌, Ok, Err}
use Rattle.std.proofs.Math.Option.{Option, none, some}
use Rattle.meaning.specs.declared.call.Call.{Call}
use Rattle.meaning.specs.Answer.{Answer}
use Rattle.meaning.specs.State.{Script}
use Rattle.meaning.specs.CallRecord.{decode}
use Rattle.meaning.specs.World.{World, Result, call, call_record}
use Rattle.meaning.specs.Plan.{Plan, calls_of, run}

pub data Event : Type 0 where
  a_call : Call → Event
  a_record : List ℕ → Event
  a_run : Plan → Event

-- the calls that an event asks for
abbrev pub asks : Event → List Call
asks (a_call c) = c ∷ []
asks (a_record bytes) = of_record (decode bytes)
  where
    of_record : Option Call → List Call
    of_record none = []
    of_record (some c) = c ∷ []
asks (a_run p) = calls_of p

-- they count where nothing was refused
abbrev pub counts : Answer → List Call → List Call
counts (Ok tt) cs = cs
counts (Err r) cs = []

module _ (opening : Answer) (x : Script) where
  abbrev pub happens : World → Event → Result
  happens w (a_call c) = call opening x w c
  happens w (a_record bytes) = call_record opening x w bytes
  happens w (a_run p) = run opening x w p

  -- the engine and the buffer behind a history, each lent as last left
  unfoldable pub after : World → List Event → World
  after w [] = w
  after w (e ∷ es) = after (happens w e).left es

  -- the calls of the history; those of refused calls and runs count for nothing
  unfoldable pub went : World → List Event → List Call
  went w [] = []
  went w (e ∷ es) = counts (happens w e).answer (asks e) ++ went (happens w e).left es
