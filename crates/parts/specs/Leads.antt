-- What leads to a value that may be missing, closures and jumps, by the byte of the kind: format.rs 980 to 1027, 1137 to 1179. Assumes nothing.
use Rattle.std.specs.Prelude.{ℕ, Bool, not, cond, ◌&&◌, List, eqb}
use Rattle.tree.specs.declared.record.Record.{Record}
use Rattle.kinds.specs.declared.Kind.{Kind}
use Rattle.kinds.specs.Facts.{byte_of}
use Rattle.meaning.specs.declared.call.Literal.TheVariants.{Braces}
use Rattle.meaning.specs.declared.call.Call.TheVariants.{Ws, Lit}
use Rattle.meaning.specs.Plan.{Plan, nothing, make}
use Rattle.walk.specs.Stream.{Stream}
use Rattle.walk.specs.Flow.{Flow, ◌▸◌, call, write, pump, expect, is}
use Rattle.walk.specs.Loop.{loop}
use Rattle.parts.specs.Spaced.{is_expr}
use Rattle.parts.specs.Args.{closure_args}

-- behind `break` and `continue`
unfoldable pub jump_labels : List Record → Stream → Flow Stream
jump_labels rs = loop (λ (s : Stream). s) (is rs Kind.Label) (call Ws ▸ pump write)

-- the word of a jump, by the byte of its kind, with the labels behind `break` and `continue`
unfoldable pub jump_word : List Record → ℕ → Stream → Flow Stream
jump_word rs kind =
    cond (eqb kind (byte_of Kind.ExprBreak)) (expect rs Kind.Break write ▸ jump_labels rs)
    (cond (eqb kind (byte_of Kind.ExprContinue)) (expect rs Kind.Continue write ▸ jump_labels rs)
    (cond (eqb kind (byte_of Kind.ExprReturn)) (expect rs Kind.Return write)
    (expect rs Kind.Yield write)))

-- up to where a value may stand
unfoldable pub lead_head : List Record → ℕ → Stream → Flow Stream
lead_head rs kind = cond (eqb kind (byte_of Kind.ExprClosure)) (closure_args rs ▸ call Ws) (jump_word rs kind)

-- `continue` takes no value
unfoldable pub lead_takes : List Record → ℕ → ℕ → Bool
lead_takes rs kind k = not (eqb kind (byte_of Kind.ExprContinue)) && is_expr rs k

-- the space behind a closure's arguments stands there already
unfoldable pub before_value : ℕ → Plan
before_value kind = cond (eqb kind (byte_of Kind.ExprClosure)) nothing (make Ws)

-- a closure that has none gets an empty block
unfoldable pub no_value : ℕ → Plan
no_value kind = cond (eqb kind (byte_of Kind.ExprClosure)) (make (Lit Braces)) nothing
