-- What the public functions promise: the whole result and the whole buffer. Assumes nothing.
use Rattle.std.specs.Prelude.{◌≡◌, ℕ, zero, suc, Bool, cond, ◌||◌, List, length, ltb, Ok, Err}
use Rattle.std.proofs.Math.Option.{Option, none, some}
use Rattle.tree.specs.declared.record.RecordNo.{RecordNo}
use Rattle.meaning.specs.declared.call.Call.{Call}
use Rattle.meaning.specs.declared.call.Call.TheVariants.{WriteOwned, WriteRaw, Ignore}
use Rattle.meaning.specs.declared.answer.Refusal.TheVariants.{NoRoom, QueueFull, IndentOut, BadCall}
use Rattle.meaning.specs.Answer.{Answer}
use Rattle.meaning.specs.State.{State, fresh}
use Rattle.meaning.specs.Opening.{script_in, opening}
use Rattle.meaning.specs.Lent.{any_outside}
use Rattle.meaning.specs.World.{world, Result, call, call_record}
use Rattle.meaning.specs.Plan.{Plan, make, refuse, exec}
use Rattle.entry.specs.declared.state.Small.{Small}
use Rattle.entry.specs.declared.state.State as code
use Rattle.entry.specs.declared.state.Step.{Step}
use Rattle.std.specs.Prelude as read
use Rattle.lent.specs.declared.formatter.Formatter.{Formatter}
use Rattle.lent.specs.Run.{answered}
use Rattle.lent.specs.View.{queue_of, view, slots_of, result_of}

-- ---- the state as a caller holds it

abbrev pub started_run : Small → Answer → Formatter
started_run s a =
    record { answer = a; len = s.len; head = 0; count = s.count; lines = s.lines; use_lines = s.use_lines; ws = s.ws; indent = s.indent; finished = s.finished }

-- the scalars of a run, as a caller holds them
abbrev pub now_of : Formatter → Small
now_of r =
    record { len = r.len; count = r.count; lines = r.lines; use_lines = r.use_lines; ws = r.ws; indent = r.indent; finished = r.finished }

-- what a lent state means
abbrev pub state_of : code.State → State
state_of s = view (started_run s.now (Ok tt)) s.queue

-- the one encoding that is handed back
abbrev pub encoded : State → code.State
encoded s = record {
  now = record { len = s.len; count = length s.queue; lines = s.lines; use_lines = s.use_lines; ws = s.ws; indent = s.indent; finished = s.finished };
  queue = slots_of s.queue;
}

-- after a refusal the state that was lent
abbrev pub left_of : code.State → Answer → State → Step
left_of s (Ok tt) t = record { answer = Ok tt; state = encoded t }
left_of s (Err r) t = record { answer = Err r; state = s }

-- the run r and the ring q, handed back
pub record Left (s : code.State) (r : Formatter) (q : List ℕ) (z : Step) : Type 0 where
  pub out : z ≡ left_of s r.answer (view r q)

-- ---- the checks on what is lent

abbrev pub checked_answer : Bool → Bool → Bool → Formatter → Answer
checked_answer past outside deep r = cond past (Err (NoRoom r.len)) (cond outside (Err (QueueFull (record { 0 = 8192 }))) (cond deep (Err (IndentOut r.indent)) (Ok tt)))

abbrev pub lent_answer : Answer → Bool → Bool → Bool → Formatter → Answer
lent_answer (Err e) past outside deep r = Err e
lent_answer (Ok tt) past outside deep r = checked_answer past outside deep r

unfoldable pub lent_run : List ℕ → List ℕ → ℕ → Formatter → Formatter
lent_run src q cap r =
    answered r (lent_answer r.answer (ltb cap r.len) (ltb 256 r.count || any_outside src (queue_of q r.head r.count)) (ltb 64 r.indent) r)

-- ---- call records

-- the code's Option as the definitions'
abbrev pub as_call : read.Option Call → Option Call
as_call read.None = none
as_call (read.Some c) = some c

-- a kind with a node number, where four bytes stand behind the kind
unfoldable pub numbered : ℕ → RecordNo → Option Call
numbered zero k = none
numbered (suc zero) k = some (WriteOwned k)
numbered (suc (suc zero)) k = some (WriteRaw k)
numbered (suc (suc (suc zero))) k = some (Ignore k)
numbered (suc (suc (suc (suc kind)))) k = none

-- ---- the promises

-- from the lent state s: what is handed back, and the buffer, are those of a result
pub record Served (s : code.State) (z : Step) (b' : List ℕ) (r : Result) : Type 0 where
  pub step : z ≡ left_of s r.answer r.left.state
  pub buffer : b' ≡ r.left.buffer

abbrev pub call_left : List ℕ → List ℕ → code.State → List ℕ → Call → Result
call_left src tree s b c = call (opening src tree) (script_in src tree) (world (state_of s) b) c

abbrev pub record_left : List ℕ → List ℕ → code.State → List ℕ → List ℕ → Result
record_left src tree s b bytes = call_record (opening src tree) (script_in src tree) (world (state_of s) b) bytes

-- opening hands back a fresh engine; where it refuses, the answer says so
abbrev pub open_left : List ℕ → List ℕ → Step
open_left src tree = record { answer = opening src tree; state = encoded fresh }

-- a decoded record from a result on: its call, or refusal 12 at place 0
abbrev pub asked_plan : Option Call → Plan
asked_plan none = refuse (BadCall 0)
asked_plan (some c) = make c

-- the call that is asked for, or refusal 12, behind the checks on what is lent
abbrev pub asked_left : List ℕ → List ℕ → code.State → List ℕ → Option Call → Result
asked_left src tree s b o =
    exec (script_in src tree) (asked_plan o) (result_of (lent_run src s.queue (length b) (started_run s.now (opening src tree))) s.queue b)
