-- Operators, ranges, groups, closures and jumps: format.rs 650 to 662, 774 to 781, 847 to 906, 980 to 1027, 1137 to 1179. Assumes nothing.
use Rattle.std.specs.Prelude.{ℕ, Bool, cond, eqb}
use Rattle.tree.specs.Table.{node_of}
use Rattle.kinds.specs.declared.Kind.{Kind}
use Rattle.kinds.specs.Facts.{byte_of}
use Rattle.meaning.specs.declared.call.Hint.TheVariants.{Infix}
use Rattle.meaning.specs.declared.call.Call.TheVariants.{Comments}
use Rattle.meaning.specs.Plan.{nothing}
use Rattle.meaning.specs.State.{Script}
use Rattle.walk.specs.Stream.{Stream}
use Rattle.walk.specs.Flow.{Flow, ◌▸◌, plain, call, write, pump, if_next, is}
use Rattle.walk.specs.Loop.{loop}
use Rattle.parts.specs.Spaced.{is_expr, expect_expr, between}
use Rattle.parts.specs.Sorts.{is_prefix}
use Rattle.parts.specs.Leads.{lead_head, lead_takes, before_value, no_value}
use Rattle.gaps.specs.Statements.{group_end}
use Rattle.exprs.specs.Rule.{Rule, Below}

module _ (x : Script) (lay : Below) where
  -- the byte of the kind of the node whose records these are
  abbrev pub node_kind : Stream → ℕ
  node_kind s = (node_of x.tree s.node.0).kind

  unfoldable pub assign : Stream → Flow Stream
  assign = expect_expr x.tree (lay Rule.Expr) ▸ between x.tree (byte_of Kind.Eq) ▸ expect_expr x.tree (lay Rule.Expr)

  unfoldable pub binary : Stream → Flow Stream
  binary =
      pump (lay Rule.Inner)
      ▸ loop (λ (s : Stream). s) (is x.tree Kind.ExprOperator) (between x.tree (byte_of Kind.ExprOperator) ▸ pump (lay Rule.Inner))

  -- unary operators and ranges, by the kind: an operand behind the operator, before it, or both
  unfoldable pub range_of : ℕ → Stream → Flow Stream
  range_of kind =
      cond (is_prefix kind) (pump write ▸ pump (lay Rule.Inner))
      (pump (lay Rule.Inner) ▸ pump write ▸ cond (eqb kind (byte_of Kind.ExprRangeFrom)) (plain nothing) (pump (lay Rule.Inner)))

  unfoldable pub range : Stream → Flow Stream
  range s = range_of (node_kind s) s

  -- in parentheses, or between the marks of an empty group
  unfoldable pub group : Bool → Stream → Flow Stream
  group empty =
      group_end x.tree empty (byte_of Kind.OpenParenthesis)
      ▸ if_next (is_expr x.tree) (pump (lay Rule.Paren)) (call (Comments Infix))
      ▸ group_end x.tree empty (byte_of Kind.CloseParenthesis)

  -- a closure or a jump, by the kind: what leads to a value, and the value where it is there
  unfoldable pub lead_of : ℕ → Stream → Flow Stream
  lead_of kind =
      lead_head x.tree kind ▸ if_next (lead_takes x.tree kind) (plain (before_value kind) ▸ pump (lay Rule.Expr)) (plain (no_value kind))

  unfoldable pub lead : Stream → Flow Stream
  lead s = lead_of (node_kind s) s
