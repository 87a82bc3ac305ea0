-- What the exported functions promise: the answer's number, and every byte of the lent state and of the lent buffer. Assumes nothing.
use Rattle.std.specs.Prelude.{◌≡◌, ℕ, ◌+◌, ◌*◌, ◌<◌, Bool, true, false, cond, List, length, eqb, Ok, Err}
use Rattle.meaning.specs.declared.answer.Refusal.TheVariants.{QueueFull}
use Rattle.meaning.specs.Answer.{Answer}
use Rattle.meaning.specs.State.{State, fresh}
use Rattle.meaning.specs.Opening.{script_in, opening}
use Rattle.meaning.specs.Numbers.{seen}
use Rattle.meaning.specs.World.{world, Result, result, call_record}
use Rattle.meaning.specs.Plan.{Plan, run}
use Rattle.lent.specs.Loans.{Loan, MutLoan}
use Rattle.format.specs.declared.runs.Wanted.{Wanted}
use Rattle.format.specs.Laid.{plan_of}
use Rattle.rules.specs.Rules.{layout}
use Rattle.rules.specs.Whole.{whole}
use Rattle.wire.specs.StateBytes.{shaped, state_in, bytes_of}

-- 0 for done, else the refusal's number times 2^32, and its place, which each promise says to be below 2^32
unfoldable pub packed : Answer → ℕ
packed a = (seen a).number * 0x100000000 + (seen a).place

-- the shape is asked right behind 1, 2, 3, 7: refusal 5, place 8,192
abbrev pub then_shape : Answer → Bool → Answer
then_shape (Err r) good = Err r
then_shape (Ok tt) true = Ok tt
then_shape (Ok tt) false = Err (QueueFull (record { 0 = 8192 }))

-- a refusal leaves the state's bytes; else they are written whole
abbrev pub state_left : List ℕ → Answer → State → List ℕ
state_left st (Ok tt) s = bytes_of s
state_left st (Err r) s = st

-- ---- open: 1, 2, 3, 7, then the state's length

abbrev pub open_answer : List ℕ → List ℕ → List ℕ → Answer
open_answer src tree st = then_shape (opening src tree) (eqb (length st) 4128)

pub record Opened (src tree st : List ℕ) (n : ℕ) (st' : List ℕ) : Type 0 where
  pub answer : n ≡ packed (open_answer src tree st)
  pub place_fits : (seen (open_answer src tree st)).place < 0x100000000
  pub state : st' ≡ state_left st (open_answer src tree st) fresh

-- ---- what a call and a run leave

-- the lent state and the lent buffer are st and b before, st' and b' behind; r is what the meaning answers and leaves
pub record Handed (st : List ℕ) (r : Result) (n : ℕ) (st' b' : List ℕ) : Type 0 where
  pub answer : n ≡ packed r.answer
  pub place_fits : (seen r.answer).place < 0x100000000
  pub state : st' ≡ state_left st r.answer r.left.state
  pub buffer : b' ≡ r.left.buffer
  -- what was written reads back as the state that is left, and can be lent again
  pub reads : r.answer ≡ Ok tt → state_in st' ≡ r.left.state
  pub shape : r.answer ≡ Ok tt → shaped st' (length b') ≡ true

-- ---- call: 1, 2, 3, 7, the shape, then whatever the call record meets

abbrev pub call_result : List ℕ → List ℕ → List ℕ → List ℕ → List ℕ → Result
call_result src tree st b bytes = call_record (then_shape (opening src tree) (shaped st (length b))) (script_in src tree) (world (state_in st) b) bytes

abbrev pub Called : List ℕ → List ℕ → List ℕ → List ℕ → List ℕ → ℕ → List ℕ → List ℕ → Type 0
Called src tree st b bytes n st' b' = Handed st (call_result src tree st b bytes) n st' b'

abbrev pub CalledOn : Loan → Loan → MutLoan → MutLoan → Loan → ℕ → Type 0
CalledOn source tree state out bytes n =
    Called source.entry.now tree.entry.now state.entry.now out.entry.now bytes.entry.now n state.exit.now out.exit.now

-- ---- run and layout: 1, 2, 3, 7, the shape, then whatever the plan meets

-- the calls of the rule of node k
abbrev pub layout_of : List ℕ → List ℕ → ℕ → Plan
layout_of src tree k = layout (script_in src tree) (record { 0 = k })

-- those of a whole layout
abbrev pub whole_of : List ℕ → List ℕ → Plan
whole_of src tree = whole (script_in src tree)

-- a refused run zeroes the buffer from the former length on; of a state without the shape no word is trusted, so nothing is touched there
abbrev pub run_result : List ℕ → List ℕ → List ℕ → List ℕ → Plan → Result
run_result src tree st b p =
    cond (shaped st (length b)) (run (opening src tree) (script_in src tree) (world (state_in st) b) p)
    (result (then_shape (opening src tree) false) (world (state_in st) b))

abbrev pub Laid : List ℕ → List ℕ → List ℕ → List ℕ → Plan → ℕ → List ℕ → List ℕ → Type 0
Laid src tree st b p n st' b' = Handed st (run_result src tree st b p) n st' b'

abbrev pub LaidAs : Loan → Loan → MutLoan → MutLoan → Wanted → ℕ → Type 0
LaidAs source tree state out w n =
    let src = source.entry.now in let list = tree.entry.now in
    Laid src list state.entry.now out.entry.now (plan_of (script_in src list) w) n state.exit.now out.exit.now

abbrev pub LaidOn : Loan → Loan → MutLoan → MutLoan → ℕ → ℕ → Type 0
LaidOn source tree state out k n =
    let src = source.entry.now in let list = tree.entry.now in
    Laid src list state.entry.now out.entry.now (layout_of src list k) n state.exit.now out.exit.now

abbrev pub WholeOn : Loan → Loan → MutLoan → MutLoan → ℕ → Type 0
WholeOn source tree state out n =
    let src = source.entry.now in let list = tree.entry.now in
    Laid src list state.entry.now out.entry.now (whole_of src list) n state.exit.now out.exit.now
