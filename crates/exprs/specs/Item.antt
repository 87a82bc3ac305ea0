-- Items: format.rs 136 to 203, 1441 to 1462, 1544 to 1573. Assumes nothing.
use Rattle.std.specs.Prelude.{ℕ, false, cond, eqb}
use Rattle.tree.specs.declared.record.RecordNo.{RecordNo}
use Rattle.tree.specs.Table.{node_of}
use Rattle.kinds.specs.declared.Kind.{Kind}
use Rattle.kinds.specs.Facts.{byte_of}
use Rattle.meaning.specs.Plan.{Plan}
use Rattle.meaning.specs.State.{Script}
use Rattle.walk.specs.Stream.{Stream}
use Rattle.walk.specs.Flow.{Flow, ◌▸◌, plain, pump, expect, parse}
use Rattle.paths.specs.Attribute.{attributes, modifiers}
use Rattle.gaps.specs.Blocks.{asks_block, before_block, no_block}
use Rattle.parts.specs.Heads.{item_head}
use Rattle.parts.specs.Lone.{no_item}
use Rattle.parts.specs.Sorts.{is_decl}
use Rattle.exprs.specs.Rule.{Rule, Below}

module _ (x : Script) (lay : Below) where
  -- the value of a const, or a block, or neither
  unfoldable pub behind_head : ℕ → Stream → Flow Stream
  behind_head kind s =
      cond (eqb kind (byte_of Kind.ItemConst)) (pump (lay Rule.Expr) s)
      (cond (asks_block x.tree kind s) ((plain (before_block kind) ▸ expect x.tree Kind.Block (lay (Rule.Block false))) s)
      (plain (no_block kind) s))

  -- by the byte of the kind
  unfoldable pub item_rule : ℕ → Stream → Flow Stream
  item_rule kind = item_head x.tree kind ▸ behind_head kind

  -- modifiers stand inside the node; a node that is no item is refusal 9, a leaf 8
  unfoldable pub decl : RecordNo → Plan
  decl k =
      let kind = (node_of x.tree k.0).kind in
      cond (is_decl kind) (parse x.tree (modifiers x.tree ▸ item_rule kind) k) (no_item x.tree k)

  unfoldable pub item : Stream → Flow Stream
  item = attributes x.tree ▸ pump (lay Rule.Decl)
