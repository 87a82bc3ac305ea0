-- What an engine works on, and its state. Assumes nothing.
use Rattle.std.specs.Prelude.{ℕ, Bool, true, false, List, []}
use Rattle.text.specs.declared.span.Span.{Span}
use Rattle.tree.specs.declared.record.Record.{Record}

-- a source and the records of its tree
pub record Script : Type 0 where
  pub source : List ℕ
  pub tree : List Record

-- a comment as it stands in the source
pub record Note : Type 0 where
  pub span : Span
  pub line : Bool

-- a comment as it waits: `before` is what `lines` was when it was collected
pub record Comment : Type 0 where
  pub span : Span
  pub before : ℕ
  pub line : Bool

abbrev pub note_of : Comment → Note
note_of c = record { span = c.span; line = c.line }

abbrev pub queued : Note → ℕ → Comment
queued n before = record { span = n.span; before = before; line = n.line }

-- `len` is the output's length
pub record State : Type 0 where
  pub len : ℕ
  pub queue : List Comment
  pub lines : ℕ
  pub use_lines : Bool
  pub ws : Bool
  pub indent : ℕ
  pub finished : Bool

abbrev pub fresh : State
fresh = record { len = 0; queue = []; lines = 0; use_lines = false; ws = false; indent = 0; finished = false }

-- ---- a state with a part of it changed

abbrev pub with_len : State → ℕ → State
with_len s n = record { len = n; queue = s.queue; lines = s.lines; use_lines = s.use_lines; ws = s.ws; indent = s.indent; finished = s.finished }

abbrev pub with_queue : State → List Comment → State
with_queue s q = record { len = s.len; queue = q; lines = s.lines; use_lines = s.use_lines; ws = s.ws; indent = s.indent; finished = s.finished }

abbrev pub with_hints : State → ℕ → Bool → Bool → State
with_hints s lines use_lines ws = record { len = s.len; queue = s.queue; lines = lines; use_lines = use_lines; ws = ws; indent = s.indent; finished = s.finished }

abbrev pub with_lines : State → ℕ → State
with_lines s lines = with_hints s lines s.use_lines s.ws

abbrev pub with_use_lines : State → Bool → State
with_use_lines s use_lines = with_hints s s.lines use_lines s.ws

abbrev pub with_ws : State → Bool → State
with_ws s ws = with_hints s s.lines s.use_lines ws

abbrev pub with_indent : State → ℕ → State
with_indent s n = record { len = s.len; queue = s.queue; lines = s.lines; use_lines = s.use_lines; ws = s.ws; indent = n; finished = s.finished }

abbrev pub closed : State → State
closed s = record { len = s.len; queue = s.queue; lines = s.lines; use_lines = s.use_lines; ws = s.ws; indent = s.indent; finished = true }
