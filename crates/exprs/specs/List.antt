-- Lists of expressions, tuples, objects: format.rs 387 to 505, 783 to 845. Assumes nothing.
use Rattle.std.specs.Prelude.{ℕ, true, false, cond, List, [], ◌∷◌, length}
use Rattle.tree.specs.declared.record.Record.{Record}
use Rattle.tree.specs.declared.record.RecordNo.{RecordNo}
use Rattle.tree.specs.Cursor.{behind, children_of}
use Rattle.kinds.specs.declared.Kind.{Kind}
use Rattle.meaning.specs.declared.call.Hint.TheVariants.{Line}
use Rattle.meaning.specs.declared.call.Call.TheVariants.{Comments, Ws}
use Rattle.meaning.specs.Plan.{Plan, nothing, make, ◌then◌}
use Rattle.meaning.specs.State.{Script}
use Rattle.steps.specs.declared.remaining.Mark.TheVariants.{CloseBrace}
use Rattle.walk.specs.Stream.{Stream}
use Rattle.walk.specs.Flow.{Flow, ◌▸◌, plain, call, write, pump, expect, expect_byte, if_next, is}
use Rattle.walk.specs.Loop.{loop}
use Rattle.steps.specs.Remaining.{Remaining, put_remaining}
use Rattle.steps.specs.Items.{items, list, listed, suffix}
use Rattle.patterns.specs.Pattern.{tupled, object_name, object_end, silent}
use Rattle.loose.specs.Reason.{reason, is_loose}
use Rattle.gaps.specs.Lines.{open_lines, end_entry, close_lines, key_line, close_keys, next_key}
use Rattle.parts.specs.Spaced.{is_expr}
use Rattle.exprs.specs.Rule.{Rule, Below}

-- the first record behind an object's name, which stands next
abbrev pub behind_name : List Record → List ℕ → ℕ
behind_name rs [] = length rs
behind_name rs (k ∷ ks) = behind rs k

module _ (x : Script) (lay : Below) where
  -- ---- lists: a reason makes them loose

  -- each on a line of its own
  unfoldable pub loose_entry : RecordNo → Plan
  loose_entry k = make (Comments Line) then lay Rule.Expr k

  unfoldable pub loose : Stream → Flow Stream
  loose = plain open_lines ▸ loop (λ (s : Stream). s) (is_expr x.tree) (pump loose_entry ▸ end_entry x.tree) ▸ plain close_lines

  -- all on one line
  unfoldable pub compact : Stream → Flow Stream
  compact = list x.tree (is_expr x.tree) (lay Rule.Expr)

  -- between two tokens, of these bytes
  unfoldable pub exprs : ℕ → ℕ → Stream → Flow Stream
  exprs opening closing s =
      (expect_byte x.tree opening write
      ▸ cond (is_loose (reason x false s.node (children_of x.tree s.node.0).at.0)) loose compact
      ▸ expect_byte x.tree closing write) s

  -- the comma of a single one stays
  unfoldable pub tuple : Stream → Flow Stream
  tuple =
      expect x.tree Kind.OpenParenthesis write ▸ items x.tree (is_expr x.tree) (listed (lay Rule.Expr)) suffix ▸ tupled true
      ▸ expect x.tree Kind.CloseParenthesis write

  -- ---- objects: only what stands behind the name decides

  -- a colon and a value behind a key
  unfoldable pub pair : Stream → Flow Stream
  pair = if_next (is x.tree Kind.Colon) (pump write ▸ call Ws ▸ pump (lay Rule.Expr)) (plain nothing)

  -- each key on a line of its own
  unfoldable pub rows : Stream → Flow Stream
  rows = plain open_lines ▸ loop (λ (s : Stream). s) (is x.tree Kind.ObjectKey) (key_line ▸ pair ▸ end_entry x.tree) ▸ close_keys x.tree

  unfoldable pub keyed : Remaining → Stream → Flow Stream
  keyed comma = next_key comma ▸ pair

  -- all keys on one line
  unfoldable pub row : Stream → Flow Stream
  row = items x.tree (is x.tree Kind.ObjectKey) keyed silent ▸ object_end ▸ put_remaining x.tree CloseBrace

  unfoldable pub object : Stream → Flow Stream
  object s =
      (object_name x.tree ▸ expect x.tree Kind.OpenBrace write
      ▸ cond (is_loose (reason x true s.node (behind_name x.tree s.left))) rows row) s
