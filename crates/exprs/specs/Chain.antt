-- Chains: format.rs 1181 to 1284. Assumes nothing.
use Rattle.std.specs.Prelude.{ℕ, suc, true, cond}
use Rattle.tree.specs.declared.record.RecordNo.{RecordNo}
use Rattle.tree.specs.Cursor.{head_of}
use Rattle.kinds.specs.declared.Kind.{Kind}
use Rattle.kinds.specs.Facts.{byte_of}
use Rattle.meaning.specs.declared.answer.Refusal.TheVariants.{WrongKind}
use Rattle.meaning.specs.Plan.{Plan, nothing, refuse, ◌then◌}
use Rattle.meaning.specs.State.{Script}
use Rattle.walk.specs.Stream.{Stream}
use Rattle.walk.specs.Flow.{Flow, flow, ◌▸◌, pump, is, parse}
use Rattle.walk.specs.Loop.{loop}
use Rattle.loose.specs.Chain.{chain_from}
use Rattle.parts.specs.Links.{tried, awaited, field_of, open_index, close_index, break_link, chain_end}
use Rattle.exprs.specs.Rule.{Rule, Below}
use Rattle.exprs.specs.List.{exprs}

-- the records left, and how many links stood before them
pub record Linked : Type 0 where
  pub rest : Stream
  pub count : ℕ

abbrev pub linked : Stream → ℕ → Linked
linked s n = record { rest = s; count = n }

module _ (x : Script) (lay : Below) where
  -- ---- a link, by its kind

  unfoldable pub index : Stream → Flow Stream
  index = open_index x.tree ▸ pump (lay Rule.Expr) ▸ close_index x.tree

  unfoldable pub link : RecordNo → Plan
  link k =
      cond (is x.tree Kind.ExprTry k.0) (parse x.tree (tried x.tree) k)
      (cond (is x.tree Kind.ExprAwait k.0) (parse x.tree (awaited x.tree) k)
      (cond (is x.tree Kind.ExprField k.0) (parse x.tree (field_of x.tree) k)
      (cond (is x.tree Kind.ExprCall k.0) (parse x.tree (exprs x lay (byte_of Kind.OpenParenthesis) (byte_of Kind.CloseParenthesis)) k)
      (cond (is x.tree Kind.ExprIndex k.0) (parse x.tree index k)
      (refuse (WrongKind k))))))

  -- ---- the links, where the chain breaks from one on

  unfoldable pub begin : Stream → Flow Linked
  begin s = flow nothing (linked s 0)

  unfoldable pub next : ℕ → Linked → Flow Linked
  next from s = let a = pump (λ k. break_link x.tree from s.count k then lay Rule.Link k) s.rest in flow a.plan (linked a.rest (suc s.count))

  unfoldable pub ended : ℕ → Linked → Flow Stream
  ended from s = flow (chain_end from s.count) s.rest

  unfoldable pub links : ℕ → Stream → Flow Stream
  links from = begin ▸ loop (λ (s : Linked). s.rest) (λ (k : ℕ). true) (next from) ▸ ended from

  -- the head, then the links
  unfoldable pub chain : Stream → Flow Stream
  chain s = (pump (lay Rule.Inner) ▸ links (chain_from x s.node (head_of s.left))) s
