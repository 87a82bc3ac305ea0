-- What the parts of a call promise: the result they leave is what that part of the meaning leaves. Assumes nothing.
use Rattle.std.specs.Prelude.{◌≡◌, ℕ, Bool, true, false, List, [], ◌∷◌, length, Ok, Err}
use Rattle.tree.specs.declared.record.RecordNo.{RecordNo}
use Rattle.meaning.specs.Answer.{Answer}
use Rattle.meaning.specs.State.{Script, State}
use Rattle.meaning.specs.Pieces.{gap, text, Emit, emit}
use Rattle.meaning.specs.Outcome.{Outcome, refused}
use Rattle.meaning.specs.Collect.{gather, node_text}
use Rattle.meaning.specs.Flush.{flush}
use Rattle.meaning.specs.Calls.{settle, write_node}
use Rattle.meaning.specs.World.{world, capacity, Result, made}
use Rattle.meaning.specs.Plan.{go_on}
use Rattle.lent.specs.declared.formatter.Formatter.{Formatter}
use Rattle.lent.specs.Run.{is_refused, answered, collected_run}
use Rattle.lent.specs.Loans.{Loan, MutLoan, FormatterLoan, script}
use Rattle.lent.specs.declared.room.Gap.{Gap}
use Rattle.queue.specs.declared.release.Way.{Way}
use Rattle.queue.specs.Passes.{release_of}
use Rattle.lent.specs.View.{queue_of, view, result_of, gap_bytes}

-- steps that have an outcome, from a result on
unfoldable pub onward : (ℕ → State → Outcome) → Result → Result
onward f r = go_on r.answer r.left (λ w. made w (f (capacity w) w.state))

-- what is emitted is written where there is room; no step of it looks at a script
abbrev pub settles : ℕ → State → Emit → (State → State) → Outcome
settles cap s e f = settle (record { source = []; tree = [] }) cap s e f

-- a release, from the run and the buffer b; a refused one changes nothing but the answer
pub record LetsOut (src : List ℕ) (w : Way) (q : List ℕ) (run : Formatter) (b : List ℕ) (r : Formatter) (b' : List ℕ) : Type 0 where
  pub out : result_of r q b' ≡ onward (λ cap s. settles cap s (release_of src w s) (λ s'. s')) (result_of run q b)
  pub stays : is_refused r.answer ≡ true → r ≡ answered run r.answer

abbrev pub Released : Loan → FormatterLoan → Loan → MutLoan → Way → Type 0
Released src fmt queue out w =
    LetsOut src.entry.now w queue.entry.now fmt.entry.now out.entry.now fmt.exit.now out.exit.now

-- a flush and a text, whatever the ring holds
pub record PutText (preserve : Bool) (t : List ℕ) (run : Formatter) (b : List ℕ) (r : Formatter) (b' : List ℕ) : Type 0 where
  pub out : (q : List ℕ) → result_of r q b' ≡ onward (λ cap s. settles cap s (flush preserve s (text t ∷ [])) (λ s'. s')) (result_of run q b)

abbrev pub Put : FormatterLoan → MutLoan → Bool → Loan → Type 0
Put fmt out preserve t = PutText preserve t.entry.now fmt.entry.now out.entry.now fmt.exit.now out.exit.now

abbrev pub on_answer : Answer → Outcome → Outcome
on_answer (Ok tt) o = o
on_answer (Err e) o = refused e

-- collecting from record i on: what comes of it goes on as the meaning says, and the comments that waited still stand in the ring
pub record Gathered (x : Script) (i : ℕ) (run : Formatter) (q : List ℕ) (r : Formatter) (q' : List ℕ) : Type 0 where
  pub out : run.answer ≡ Ok tt → (k : State → Outcome) → gather x i (view run q) k ≡ on_answer r.answer (k (view r q'))
  pub kept : queue_of q' run.head run.count ≡ queue_of q run.head run.count
  pub long : r.len ≡ run.len

-- from record i on, with so many newlines in hand: only `lines` and `count` change, or only the answer
pub record Collects (x : Script) (i lines : ℕ) (run : Formatter) (q : List ℕ) (stop : Bool) (r : Formatter) (q' : List ℕ) : Type 0 where
  pub gathered : Gathered x i (collected_run run lines run.count) q r q'
  pub told : run.answer ≡ Ok tt → stop ≡ is_refused r.answer
  pub full : stop ≡ true → r ≡ answered run r.answer
  pub rest : stop ≡ false → r ≡ collected_run run r.lines r.count

abbrev pub Collected : Loan → Loan → FormatterLoan → MutLoan → ℕ → ℕ → Bool → Type 0
Collected src table fmt queue i lines stop =
    Collects (script src table) i lines fmt.entry.now queue.entry.now stop fmt.exit.now queue.exit.now

-- two runs that differ in the hints only
pub record Beside (run next : Formatter) : Type 0 where
  pub answer : next.answer ≡ run.answer
  pub len : next.len ≡ run.len
  pub head : next.head ≡ run.head
  pub count : next.count ≡ run.count

-- a gap and node k's text written, with the hints of `next`, and what stands behind the node collected
pub record WroteNode (x : Script) (k : RecordNo) (g : Gap) (next run : Formatter) (q b : List ℕ) (r : Formatter) (q' b' : List ℕ) : Type 0 where
  pub out : run.answer ≡ Ok tt → Beside run next
      → result_of r q' b'
      ≡ made (world (view run q) b) (write_node x (length b) k (view run q) (emit (view next q) (gap (gap_bytes g) ∷ text (node_text x k) ∷ [])))
  pub long : length b' ≡ length b
