-- Blocks and their statements: format.rs 205 to 224, 1601 to 1674. Assumes nothing.
use Rattle.std.specs.Prelude.{ℕ, Bool, true, cond, List, [], ◌∷◌}
use Rattle.tree.specs.declared.record.RecordNo.{RecordNo}
use Rattle.tree.specs.Table.{node_of}
use Rattle.kinds.specs.declared.Kind.{Kind}
use Rattle.meaning.specs.declared.call.Hint.TheVariants.{Line}
use Rattle.meaning.specs.declared.call.Call.TheVariants.{Comments}
use Rattle.meaning.specs.Plan.{Plan, nothing, make, ◌then◌}
use Rattle.meaning.specs.State.{Script}
use Rattle.walk.specs.Stream.{Stream}
use Rattle.walk.specs.Flow.{Flow, flow, ◌▸◌, plain, write, pump, expect}
use Rattle.walk.specs.Loop.{loop}
use Rattle.paths.specs.Attribute.{inner_attributes}
use Rattle.gaps.specs.Statements.{gap, semicolon, is_spread, enter, leave}
use Rattle.parts.specs.Sorts.{is_item, is_let}
use Rattle.exprs.specs.Rule.{Rule, Below}

-- the records left, and the byte of the kind of the statement before them; 00 before the first
pub record Said : Type 0 where
  pub rest : Stream
  pub last : ℕ

abbrev pub said : Stream → ℕ → Said
said s last = record { rest = s; last = last }

-- by the byte of the kind: an item, a local, or what runs as an expression
unfoldable pub stmt : Below → ℕ → RecordNo → Plan
stmt lay kind k = cond (is_item kind) (lay Rule.Item k) (cond (is_let kind) (lay (Rule.Let true) k) (lay Rule.Expr k))

module _ (x : Script) (lay : Below) where
  -- ---- statements, with the lines before each and the semicolon behind

  unfoldable pub statement : ℕ → RecordNo → Plan
  statement last k = let kind = (node_of x.tree k.0).kind in gap last kind then make (Comments Line) then stmt lay kind k

  -- the kind of the next record
  abbrev pub kind_in : List ℕ → ℕ
  kind_in [] = 0
  kind_in (k ∷ ks) = (node_of x.tree k).kind

  unfoldable pub first : Stream → Flow Said
  first s = flow nothing (said s 0)

  unfoldable pub another : Said → Flow Said
  another s =
      let kind = kind_in s.rest.left in
      let a = (pump (statement s.last) ▸ semicolon x.tree kind) s.rest in
      flow a.plan (said a.rest kind)

  unfoldable pub last : Said → Flow Stream
  last s = flow nothing s.rest

  unfoldable pub stmts : Stream → Flow Stream
  stmts = inner_attributes x.tree ▸ first ▸ loop (λ (s : Said). s.rest) (λ (k : ℕ). true) another ▸ last

  -- ---- a block

  -- a compact one that has no statement stays on its line
  unfoldable pub body : Bool → Stream → Flow Stream
  body compact s = (plain (enter (is_spread compact s)) ▸ stmts ▸ plain (leave (is_spread compact s))) s

  unfoldable pub block : Bool → Stream → Flow Stream
  block compact = expect x.tree Kind.OpenBrace write ▸ expect x.tree Kind.BlockBody (lay (Rule.Body compact)) ▸ expect x.tree Kind.CloseBrace write
