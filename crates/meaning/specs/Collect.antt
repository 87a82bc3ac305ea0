-- Collecting: comments of the tree go into the queue. Assumes nothing.
use Rattle.std.specs.Prelude.{ℕ, zero, suc, ◌-◌, true, false, List, [], ◌∷◌, ◌++◌, map, length, drop}
use Rattle.text.specs.declared.span.Span.{Span}
use Rattle.text.specs.Span.{text_of}
use Rattle.text.specs.Lines.{newlines}
use Rattle.tree.specs.declared.record.Record.{Record}
use Rattle.tree.specs.declared.record.RecordNo.{RecordNo}
use Rattle.tree.specs.Table.{node_of}
use Rattle.tree.specs.Cursor as cursor
use Rattle.meaning.specs.declared.answer.Refusal.TheVariants.{QueueFull}
use Rattle.meaning.specs.State.{Script, Note, Comment, queued, State, with_queue, with_lines}
use Rattle.meaning.specs.Outcome.{Outcome, refused}

-- ---- what a record is to the collector

pub data Met : Type 0 where
  -- a composite that has children: passed over
  inner : Met
  remark : Note → Met
  -- white space with so many newlines
  blank : ℕ → Met
  -- any other record without children
  stop : Met

-- by the number of records below and the kind; n is the number of newlines in the span
abbrev pub met_at : ℕ → ℕ → Span → ℕ → Met
met_at (suc below) kind span n = inner
met_at zero zero span n = blank n
met_at zero (suc zero) span n = remark (record { span = span; line = true })
met_at zero (suc (suc zero)) span n = remark (record { span = span; line = false })
met_at zero (suc (suc (suc kind))) span n = stop

unfoldable pub met_of : List ℕ → Record → Met
met_of src r = met_at r.below r.kind r.span (newlines (text_of src r.span))

-- the records from number i on
abbrev pub met_from : Script → ℕ → List Met
met_from x i = map (met_of x.source) (drop i x.tree)

-- ---- the walk over them

pub data Collected : Type 0 where
  -- no room for the comment of that record
  full : ℕ → Collected
  -- what `lines` is in the end, and the comments
  got : ℕ → List Comment → Collected

abbrev pub before : Comment → Collected → Collected
before c (full i) = full i
before c (got lines cs) = got lines (c ∷ cs)

-- the first count, unless it is 0
abbrev pub or_else : ℕ → ℕ → ℕ
or_else zero n = n
or_else (suc lines) n = suc lines

-- from record i on, with room for so many comments
unfoldable pub collect : ℕ → ℕ → ℕ → List Met → Collected
collect i room lines [] = got lines []
collect i room lines (inner ∷ es) = collect (suc i) room lines es
collect i zero lines (remark n ∷ es) = full i
collect i (suc room) lines (remark n ∷ es) = before (queued n lines) (collect (suc i) room 0 es)
collect i room lines (blank n ∷ es) = collect (suc i) room (or_else lines n) es
collect i room lines (stop ∷ es) = got lines []

abbrev pub on_got : Collected → (ℕ → List Comment → Outcome) → Outcome
on_got (full i) k = refused (QueueFull (record { 0 = i }))
on_got (got lines cs) k = k lines cs

abbrev pub collected : State → ℕ → List Comment → State
collected s lines cs = with_lines (with_queue s (s.queue ++ cs)) lines

-- collect from record i on, into a queue of 256, then go on
unfoldable pub gather : Script → ℕ → State → (State → Outcome) → Outcome
gather x i s next = on_got (collect i (256 - length s.queue) s.lines (met_from x i)) (λ lines cs. next (collected s lines cs))

-- ---- nodes

abbrev pub node_text : Script → RecordNo → List ℕ
node_text x k = text_of x.source (node_of x.tree k.0).span

-- the first record behind k and everything below k
abbrev pub behind : Script → RecordNo → ℕ
behind x k = cursor.behind x.tree k.0
