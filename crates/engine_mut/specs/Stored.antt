-- What a thin call leaves: the engine behind the reference, the answer and the buffer are those of the function by value. Assumes nothing.
use Rattle.std.specs.Prelude.{◌≡◌, ℕ, List}
use Rattle.std.specs.Borrow.{MutBor}
use denote.Triple.Both.{Both}
use Rattle.tree.specs.declared.record.RecordNo.{RecordNo}
use Rattle.meaning.specs.Answer.{Answer}
use Rattle.meaning.specs.declared.call.Call.{Call}
use Rattle.meaning.specs.World.{Result}
use Rattle.lent.specs.Loans.{Loan, MutLoan}
use Rattle.entry.specs.declared.state.Step.{Step}
use Rattle.entry.specs.Served.{left_of, call_left, record_left}
use Rattle.format.specs.Laid.{laid_out}
use Rattle.format.specs.Laid as format
use Rattle.engine_mut.specs.declared.Engine.{Engine}

-- the engine with what is handed back in it
abbrev pub stored_in : Step → Engine
stored_in z = record { state = z.state }

-- from the engine e: the answer, the engine and the buffer are those of a result; after a refusal the engine is as it was
pub record Stored (e : Engine) (a : Answer) (e' : Engine) (b' : List ℕ) (r : Result) : Type 0 where
  pub answer : a ≡ (left_of e.state r.answer r.left.state).answer
  pub engine : e' ≡ stored_in (left_of e.state r.answer r.left.state)
  pub buffer : b' ≡ r.left.buffer

-- ---- over what is lent, at entry and at exit

abbrev pub EngineLoan : Type 0
EngineLoan = Both (MutBor Engine) (MutBor Engine)

abbrev pub Changed : EngineLoan → MutLoan → Answer → Result → Type 0
Changed e out a r = Stored e.entry.now a e.exit.now out.exit.now r

-- what the functions by value give: a call, a call record, a run, a whole layout
abbrev pub called : EngineLoan → Loan → Loan → MutLoan → Call → Result
called e source tree out c = call_left source.entry.now tree.entry.now e.entry.now.state out.entry.now c

abbrev pub recorded : EngineLoan → Loan → Loan → MutLoan → Loan → Result
recorded e source tree out bytes = record_left source.entry.now tree.entry.now e.entry.now.state out.entry.now bytes.entry.now

abbrev pub laid : EngineLoan → Loan → Loan → MutLoan → RecordNo → Result
laid e source tree out k = laid_out source.entry.now tree.entry.now e.entry.now.state out.entry.now k

abbrev pub laid_whole : EngineLoan → Loan → Loan → MutLoan → Result
laid_whole e source tree out = format.laid_whole source.entry.now tree.entry.now e.entry.now.state out.entry.now
