-- Conditions, and what depends on them: format.rs 908 to 978, 1286 to 1303. Assumes nothing.
use Rattle.std.specs.Prelude.{ℕ, Bool, true, false, cond, eqb}
use Rattle.tree.specs.declared.record.RecordNo.{RecordNo}
use Rattle.kinds.specs.declared.Kind.{Kind}
use Rattle.kinds.specs.Facts.{byte_of}
use Rattle.meaning.specs.declared.call.Literal.TheVariants.{Braces}
use Rattle.meaning.specs.declared.call.Call.TheVariants.{Ws, Lit}
use Rattle.meaning.specs.Plan.{Plan}
use Rattle.meaning.specs.State.{Script}
use Rattle.walk.specs.Stream.{Stream}
use Rattle.walk.specs.Flow.{Flow, ◌▸◌, call, write, pump, expect, if_next, is, parse}
use Rattle.walk.specs.Loop.{loop}
use Rattle.parts.specs.Spaced.{expect_expr, word, between}
use Rattle.parts.specs.Args.{for_in}
use Rattle.parts.specs.Heads.{let_head}
use Rattle.exprs.specs.Rule.{Rule, Below}
use Rattle.exprs.specs.Operand.{node_kind}

module _ (x : Script) (lay : Below) where
  -- the word of this byte, then a condition that is a node of its own or an expression, and a space
  unfoldable pub condition : ℕ → Stream → Flow Stream
  condition kind = word x.tree kind ▸ if_next (is x.tree Kind.Condition) (pump (lay (Rule.Let false))) (expect_expr x.tree (lay Rule.Expr)) ▸ call Ws

  -- `let a = b`
  unfoldable pub lets : Bool → Stream → Flow Stream
  lets local = let_head x.tree local ▸ expect_expr x.tree (lay Rule.Expr)

  abbrev pub a_block : Stream → Flow Stream
  a_block = expect x.tree Kind.Block (lay (Rule.Block false))

  -- ---- if

  -- what stands behind its block
  unfoldable pub tail : Stream → Flow Stream
  tail = loop (λ (s : Stream). s) (λ (k : ℕ). true) (pump (lay Rule.Else))

  unfoldable pub ifs : Stream → Flow Stream
  ifs = condition (byte_of Kind.If) ▸ if_next (is x.tree Kind.Block) (pump (lay (Rule.Block false))) (call (Lit Braces)) ▸ tail

  unfoldable pub elses : Stream → Flow Stream
  elses = between x.tree (byte_of Kind.Else) ▸ a_block

  unfoldable pub else_ifs : Stream → Flow Stream
  else_ifs = between x.tree (byte_of Kind.Else) ▸ condition (byte_of Kind.If) ▸ a_block

  -- any other node is written whole
  unfoldable pub behind_block : RecordNo → Plan
  behind_block k =
      cond (is x.tree Kind.ExprElse k.0) (parse x.tree elses k)
      (cond (is x.tree Kind.ExprElseIf k.0) (parse x.tree else_ifs k)
      (write k))

  -- ---- `while`, `loop`, `for`, by the kind

  unfoldable pub loop_of : ℕ → Stream → Flow Stream
  loop_of kind =
      cond (eqb kind (byte_of Kind.ExprWhile)) (condition (byte_of Kind.While) ▸ a_block)
      (cond (eqb kind (byte_of Kind.ExprLoop)) (word x.tree (byte_of Kind.Loop) ▸ a_block)
      (for_in x.tree ▸ pump (lay Rule.Expr) ▸ call Ws ▸ a_block))

  unfoldable pub loops : Stream → Flow Stream
  loops s = loop_of (node_kind x lay s) s
