-- The eleven calls: what each does, refusals 4, 5 and 6 within it, and 10 and 11 before it. Assumes nothing.
use Rattle.std.specs.Prelude.{ℕ, zero, suc, ◌+◌, ◌-◌, true, false, cond, List, [], ◌∷◌, length, leb, ltb}
use Rattle.tree.specs.declared.record.RecordNo.{RecordNo}
use Rattle.meaning.specs.declared.call.Literal.{Literal}
use Rattle.meaning.specs.declared.call.Literal.TheVariants.{Braces, Bars, Parens, OpenBrace, CloseBrace, Comma, Semicolon, Colon}
use Rattle.meaning.specs.declared.call.Call.{Call}
use Rattle.meaning.specs.declared.call.Call.TheVariants.{WriteOwned, WriteRaw, Ignore, Lit, Comments, Indent, Nl, Ws, FlushWhitespace, FlushPrefixComments, Finish}
use Rattle.meaning.specs.declared.answer.Refusal.TheVariants.{NoRoom, IndentOut, Finished, NoNode}
use Rattle.meaning.specs.State.{Script, State, with_lines, with_use_lines, with_ws, with_indent, closed}
use Rattle.meaning.specs.Pieces.{text, Emit, emit}
use Rattle.meaning.specs.Outcome.{Outcome, done, refuse_if}
use Rattle.meaning.specs.Collect.{or_else, gather, node_text, behind}
use Rattle.meaning.specs.Flush.{flush}
use Rattle.meaning.specs.Release.{line_release, space_release, hinted}

-- {} || () { } , ; :
abbrev pub lit_text : Literal → List ℕ
lit_text Braces = 0x7B ∷ 0x7D ∷ []
lit_text Bars = 0x7C ∷ 0x7C ∷ []
lit_text Parens = 0x28 ∷ 0x29 ∷ []
lit_text OpenBrace = 0x7B ∷ []
lit_text CloseBrace = 0x7D ∷ []
lit_text Comma = 0x2C ∷ []
lit_text Semicolon = 0x3B ∷ []
lit_text Colon = 0x3A ∷ []

-- a byte as a signed number
pub data Shift : Type 0 where
  deeper : ℕ → Shift
  outer : ℕ → Shift

unfoldable pub signed : ℕ → Shift
signed b = cond (ltb b 0x80) (deeper b) (outer (0x100 - b))

-- refusal 6: `indent` stays from 0 to 64
abbrev pub shifted : State → Shift → Outcome
shifted s (deeper d) = refuse_if (ltb 64 (s.indent + d)) (IndentOut s.indent) (done (with_indent s (s.indent + d)) [])
shifted s (outer d) = refuse_if (ltb s.indent d) (IndentOut s.indent) (done (with_indent s (s.indent - d)) [])

module _ (x : Script) (cap : ℕ) where
  -- refusal 4: from the state s on, e would pass a buffer of cap bytes; one test for all that a call writes
  abbrev pub fit : State → Emit → Outcome → Outcome
  fit s e o = refuse_if (ltb cap e.state.len) (NoRoom s.len) o

  -- e is written, then the state changes by f
  abbrev pub settle : State → Emit → (State → State) → Outcome
  settle s e f = fit s e (done (f e.state) e.out)

  -- e is written, then what stands behind node k is collected
  abbrev pub write_node : RecordNo → State → Emit → Outcome
  write_node k s e = fit s e (gather x (behind x k) e.state (λ s'. done s' e.out))

  unfoldable pub act : State → Call → Outcome
  act s (WriteOwned k) = write_node k s (flush false s (text (node_text x k) ∷ []))
  act s (WriteRaw k) = write_node k s (emit s (text (node_text x k) ∷ []))
  act s (Ignore k) = gather x (behind x k) s (λ s'. done s' [])
  act s (Lit t) = settle s (flush true s (text (lit_text t) ∷ [])) (λ s'. s')
  act s (Comments h) = settle s (hinted x.source h s) (λ s'. s')
  act s (Indent d) = shifted s (signed d)
  act s (Nl zero) = done s []
  act s (Nl (suc n)) = settle s (line_release x.source true s) (λ s'. with_use_lines (with_lines s' (or_else s'.lines (suc n))) true)
  act s Ws = settle s (space_release x.source true false s) (λ s'. with_ws s' true)
  act s (FlushWhitespace preserve) = settle s (flush preserve s []) (λ s'. s')
  act s FlushPrefixComments = gather x 0 s (λ s₁. settle s (line_release x.source false s₁) (λ s'. with_use_lines s' (ltb 0 s'.lines)))
  act s Finish = settle s (line_release x.source false s) closed

-- ---- 10, then 11

pub data Named : Type 0 where
  no_node : Named
  a_node : RecordNo → Named

-- the node that a call names
abbrev pub named_by : Call → Named
named_by (WriteOwned k) = a_node k
named_by (WriteRaw k) = a_node k
named_by (Ignore k) = a_node k
named_by (Lit t) = no_node
named_by (Comments h) = no_node
named_by (Indent d) = no_node
named_by (Nl n) = no_node
named_by Ws = no_node
named_by (FlushWhitespace preserve) = no_node
named_by FlushPrefixComments = no_node
named_by Finish = no_node

abbrev pub if_there : Script → Named → Outcome → Outcome
if_there x no_node o = o
if_there x (a_node k) o = refuse_if (leb (length x.tree) k.0) (NoNode k) o

abbrev pub if_open : State → Outcome → Outcome
if_open s o = refuse_if s.finished (Finished s.len) o

unfoldable pub step : Script → ℕ → State → Call → Outcome
step x cap s c = if_open s (if_there x (named_by c) (act x cap s c))
