-- Expressions, and all rules of the cycle by the depth that is left: format.rs 559 to 687. Assumes nothing.
use Rattle.std.specs.Prelude.{ℕ, zero, suc, true, false, cond, eqb}
use Rattle.tree.specs.declared.record.RecordNo.{RecordNo}
use Rattle.tree.specs.Table.{node_of}
use Rattle.kinds.specs.declared.Kind.{Kind}
use Rattle.kinds.specs.Facts.{byte_of}
use Rattle.meaning.specs.declared.call.Hint.TheVariants.{Prefix, Suffix}
use Rattle.meaning.specs.declared.call.Call.TheVariants.{Comments}
use Rattle.meaning.specs.declared.answer.Refusal.TheVariants.{TreeDeep}
use Rattle.meaning.specs.Plan.{Plan, refuse}
use Rattle.meaning.specs.State.{Script}
use Rattle.lent.specs.Loans.{Loan, MutLoan, FormatterLoan, script, Made}
use Rattle.walk.specs.Stream.{Stream, tree, StreamMutLoan}
use Rattle.walk.specs.Flow.{Flow, ◌▸◌, call, pump, is, parse, Walked}
use Rattle.parts.specs.Labels.{before_expr}
use Rattle.parts.specs.Lone.{lone}
use Rattle.parts.specs.Sorts.{is_range, is_loop, is_lead}
use Rattle.exprs.specs.Rule.{Rule, Below}
use Rattle.exprs.specs.Operand.{assign, binary, range, group, lead}
use Rattle.exprs.specs.List.{exprs, tuple, object}
use Rattle.exprs.specs.Control.{lets, ifs, behind_block, loops}
use Rattle.exprs.specs.Arms.{arm, select, matches}
use Rattle.exprs.specs.Chain.{link, chain}
use Rattle.exprs.specs.Block.{body, block}
use Rattle.exprs.specs.Item.{item, decl}

module _ (x : Script) (lay : Below) where
  -- what may stand in front of it, then its own node or token
  unfoldable pub expr : Stream → Flow Stream
  expr = before_expr x.tree ▸ pump (lay Rule.Inner)

  -- the node's kind names the rule
  unfoldable pub flow : ℕ → RecordNo → Plan
  flow kind k =
      cond (is_range kind) (parse x.tree (range x lay) k)
      (cond (is_loop kind) (parse x.tree (loops x lay) k)
      (cond (is_lead kind) (parse x.tree (lead x lay) k)
      (cond (eqb kind (byte_of Kind.ExprIf)) (parse x.tree (ifs x lay) k)
      (cond (eqb kind (byte_of Kind.ExprSelect)) (parse x.tree (select x lay) k)
      (cond (eqb kind (byte_of Kind.ExprMatch)) (parse x.tree (matches x lay) k)
      (cond (eqb kind (byte_of Kind.ExprAssign)) (parse x.tree (assign x lay) k)
      (lone x.tree k)))))))

  unfoldable pub inner : RecordNo → Plan
  inner k =
      cond (is x.tree Kind.Block k.0) (parse x.tree (block x lay true) k)
      (cond (is x.tree Kind.ExprChain k.0) (parse x.tree (chain x lay) k)
      (cond (is x.tree Kind.ExprArray k.0) (parse x.tree (exprs x lay (byte_of Kind.OpenBracket) (byte_of Kind.CloseBracket)) k)
      (cond (is x.tree Kind.ExprTuple k.0) (parse x.tree (tuple x lay) k)
      (cond (is x.tree Kind.ExprObject k.0) (parse x.tree (object x lay) k)
      (cond (is x.tree Kind.ExprBinary k.0) (parse x.tree (binary x lay) k)
      (cond (is x.tree Kind.ExprGroup k.0) (parse x.tree (group x lay false) k)
      (cond (is x.tree Kind.ExprEmptyGroup k.0) (parse x.tree (group x lay true) k)
      (flow (node_of x.tree k.0).kind k))))))))

  -- what a rule asks for at node k
  unfoldable pub below : Rule → RecordNo → Plan
  below Rule.Expr = parse x.tree expr
  below Rule.Inner = inner
  below Rule.Paren = parse x.tree (call (Comments Prefix) ▸ expr ▸ call (Comments Suffix))
  below (Rule.Let local) = parse x.tree (lets x lay local)
  below Rule.Else = behind_block x lay
  below (Rule.Arm inMatch) = parse x.tree (arm x lay inMatch)
  below Rule.Link = link x lay
  below (Rule.Block compact) = parse x.tree (block x lay compact)
  below (Rule.Body compact) = parse x.tree (body x lay compact)
  below Rule.Item = parse x.tree (item x lay)
  below Rule.Decl = decl x lay

-- each level of the tree costs one of depth: 64 is enough for every tree that is opened
unfoldable pub lay : Script → ℕ → Rule → RecordNo → Plan
lay x zero rule k = refuse (TreeDeep k)
lay x (suc d) rule k = below x (lay x d) rule k

-- ---- the forms of contract

-- what a rule asks for is laid out, with so many levels left
abbrev pub Lays : Loan → Loan → FormatterLoan → MutLoan → MutLoan → ℕ → Rule → RecordNo → Type 0
Lays src table fmt queue out depth rule k = Made src table fmt queue out (lay (script src table) depth rule k)

-- a node's rule is followed, with so many levels left below the node
abbrev pub Parses : Loan → Loan → FormatterLoan → MutLoan → MutLoan → ℕ → (Script → Below → Stream → Flow Stream) → RecordNo → Type 0
Parses src table fmt queue out depth rule k = Made src table fmt queue out (parse (tree table) (rule (script src table) (lay (script src table) depth)) k)

-- a part of a rule is, over the stream p
abbrev pub Steps : Loan → Loan → FormatterLoan → MutLoan → MutLoan → StreamMutLoan → ℕ → (Script → Below → Stream → Flow Stream) → Type 0
Steps src table fmt queue out p depth rule = Walked src table fmt queue out p (rule (script src table) (lay (script src table) depth))
