-- The changes of the engine's scalars, each of a part of them, and what refusals 10 and 11 leave. Assumes nothing.
use Rattle.std.specs.Prelude.{◌≡◌, ℕ, ◌+◌, ◌-◌, ◌%◌, Bool, true, false, not, cond, ◌&&◌, List, length, leb, ltb, Ok, Err}
use Rattle.tree.specs.declared.record.Record.{Record}
use Rattle.tree.specs.declared.record.RecordNo.{RecordNo}
use Rattle.meaning.specs.declared.answer.Refusal.TheVariants.{Finished, NoNode}
use Rattle.meaning.specs.Answer.{Answer}
use Rattle.lent.specs.declared.formatter.Formatter.{Formatter}

abbrev pub is_refused : Answer → Bool
is_refused (Ok tt) = false
is_refused (Err r) = true

abbrev pub answered : Formatter → Answer → Formatter
answered r a = record r { answer = a }

abbrev pub moved_run : Formatter → ℕ → Formatter
moved_run r n = record r { len = n }

abbrev pub hinted_run : Formatter → ℕ → Bool → Bool → Formatter
hinted_run r lines use_lines ws = record r { lines = lines; use_lines = use_lines; ws = ws }

abbrev pub indented_run : Formatter → ℕ → Formatter
indented_run r n = record r { indent = n }

-- the first n comments gone, and the output so long
abbrev pub let_out_run : Formatter → ℕ → ℕ → Formatter
let_out_run r n len = record r { len = len; head = (r.head + n) % 256; count = r.count - n }

abbrev pub collected_run : Formatter → ℕ → ℕ → Formatter
collected_run r lines count = record r { count = count; lines = lines }

-- the hints behind a flush
unfoldable pub flushed_run : Bool → Formatter → Formatter
flushed_run preserve r =
    let keep = preserve && not (r.use_lines && ltb 0 r.lines) in
    hinted_run r (cond keep r.lines 0) (keep && r.use_lines) false

-- refusal 10, then 11
abbrev pub ready_answer : Answer → Bool → ℕ → Answer
ready_answer (Err e) finished len = Err e
ready_answer (Ok tt) true len = Err (Finished len)
ready_answer (Ok tt) false len = Ok tt

unfoldable pub ready_run : Formatter → Formatter
ready_run r = answered r (ready_answer r.answer r.finished r.len)

abbrev pub present_answer : Answer → Bool → RecordNo → Answer
present_answer (Err e) missing k = Err e
present_answer (Ok tt) true k = Err (NoNode k)
present_answer (Ok tt) false k = Ok tt

unfoldable pub present_run : List Record → RecordNo → Formatter → Formatter
present_run tree k r = answered r (present_answer r.answer (leb (length tree) k.0) k)

-- refusal 10 is asked, and the answer is whether the call is to stop
pub record Readied (run go : Formatter) (stop : Bool) : Type 0 where
  pub is : go ≡ ready_run run
  pub told : stop ≡ is_refused go.answer

-- refusal 11 too
pub record Present (tree : List Record) (k : RecordNo) (run go : Formatter) (stop : Bool) : Type 0 where
  pub is : go ≡ present_run tree k (ready_run run)
  pub told : stop ≡ is_refused go.answer
