-- The one form of contract for calls and rules, over what is lent as a whole. Assumes nothing.
use Rattle.std.specs.Prelude.{◌≡◌, ℕ, List}
use Rattle.std.proofs.lemmas.List.Edits.{sets}
use Rattle.std.specs.Borrow.{Bor, MutBor}
use denote.Triple.Both.{Both}
use Rattle.meaning.specs.State.{Script}
use Rattle.meaning.specs.World.{Result}
use Rattle.meaning.specs.Plan.{Plan, Ran}
use Rattle.lent.specs.View.{script_of, result_of}
use Rattle.lent.specs.declared.formatter.Formatter.{Formatter}

-- numbers lent, at entry and at exit: to be read, or to be written too
abbrev pub Loan : Type 0
Loan = Both (Bor (List ℕ)) (Bor (List ℕ))

abbrev pub MutLoan : Type 0
MutLoan = Both (MutBor (List ℕ)) (MutBor (List ℕ))

-- the formatter, lent to be written
abbrev pub FormatterLoan : Type 0
FormatterLoan = Both (MutBor Formatter) (MutBor Formatter)

abbrev pub script : Loan → Loan → Script
script src table = script_of src.entry.now table.entry.now

-- these bytes stand in the buffer from a place on, and nothing else has changed
abbrev pub Wrote : MutLoan → ℕ → List ℕ → Type 0
Wrote out at bytes = out.exit.now ≡ sets out.entry.now at bytes

-- what is lent of the engine: its scalars, the queue, the buffer
pub record Engine : Type 0 where
  pub fmt : Formatter
  pub queue : List ℕ
  pub out : List ℕ

abbrev pub engine : Formatter → List ℕ → List ℕ → Engine
engine f q b = record { fmt = f; queue = q; out = b }

-- what it comes to so far
unfoldable pub reads : Engine → Result
reads e = result_of e.fmt e.queue e.out

abbrev pub before : FormatterLoan → MutLoan → MutLoan → Engine
before fmt queue out = engine fmt.entry.now queue.entry.now out.entry.now

abbrev pub after : FormatterLoan → MutLoan → MutLoan → Engine
after fmt queue out = engine fmt.exit.now queue.exit.now out.exit.now

-- the plan p is executed, from e to e'
pub record Makes (x : Script) (p : Plan) (e e' : Engine) : Type 0 where
  pub ran : Ran x p (reads e) (reads e')

abbrev pub Made : Loan → Loan → FormatterLoan → MutLoan → MutLoan → Plan → Type 0
Made src table fmt queue out p = Makes (script src table) p (before fmt queue out) (after fmt queue out)

-- a plan without a call: whatever the script, the queue and the buffer, only the scalars change
pub record Refuses (p : Plan) (f f' : Formatter) : Type 0 where
  pub ran : (x : Script) (q b : List ℕ) → Makes x p (engine f q b) (engine f' q b)

abbrev pub Refused : FormatterLoan → Plan → Type 0
Refused fmt p = Refuses p fmt.entry.now fmt.exit.now
