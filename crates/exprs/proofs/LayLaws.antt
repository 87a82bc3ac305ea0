-- Laws of the depth that is left, and of rules that ask their node's kind. Assumes nothing.
use Rattle.lent.specs.declared.formatter.Formatter.{Formatter}
use Rattle.steps.proofs.Rules.{◌≡◌, refl, sym, ap, ◌∙◌, List, ℕ, zero, suc, ◌-◌, arith, Record, RecordNo, TreeDeep, node_of, Script, refuse, Engine, engine}
use Rattle.steps.proofs.Rules.{Bool, true, false, Kind, byte_of, Plan, Makes, Refuses, Stream, records_of, ◌▸◌, plain, pump, expect, is, parse, Goes, Falls, pump_leaves, kind_is}
use Rattle.steps.proofs.Rules.{taking_falls, ◌takes_then◌, ne_eqb}
use Rattle.text.proofs.Base.{eq-eqb}
use Rattle.paths.specs.Attribute.{modifiers}
use Rattle.parts.specs.Spaced.{between}
use Rattle.parts.specs.Sorts.{is_decl}
use Rattle.parts.specs.Lone.{no_item}
use Rattle.gaps.specs.Blocks.{asks_block, before_block, no_block}
use Rattle.parts.proofs.Laws.{between_takes}
use Rattle.exprs.specs.Rule.{Rule, Below, asked}
use Rattle.exprs.specs.Operand.{range_of, range, lead_of, lead}
use Rattle.exprs.specs.Control.{loop_of, loops}
use Rattle.exprs.specs.Item.{behind_head, item_rule, decl}
use Rattle.exprs.specs.Lay.{inner, below, lay}

-- ---- the depth

module _ (x : Script) (rule : Rule) (k : RecordNo) where
  pub too_deep : {d : ℕ} {w w' : Formatter} {q b : List ℕ} → d ≡ 0 → Refuses (refuse (TreeDeep k)) w w' → Makes x (lay x d rule k) (engine w q b) (engine w' q b)
  unfolding lay
  too_deep e h = rw e (h.ran x _ _)

  pub deep : (d : ℕ) {e e' : Engine} → (d ≡ 0 → ⊥) → Makes x (below x (lay x (d - 1)) rule k) e e' → Makes x (lay x d rule k) e e'
  unfolding lay
  deep zero h a = absurd (h refl)
  deep (suc d) h a = let z : suc d - 1 ≡ d = omega arith in rw z at a

-- in a group or not
pub in_group : (x : Script) (k : RecordNo) (d : ℕ) {t : Bool} {e e' : Engine} → t ≡ true → Makes x (lay x d Rule.Paren k) e e' → Makes x (lay x d (asked t) k) e e'
in_group x k d h m = rw h m

pub not_grouped : (x : Script) (k : RecordNo) (d : ℕ) {t : Bool} {e e' : Engine} → t ≡ false → Makes x (lay x d Rule.Expr k) e e' → Makes x (lay x d (asked t) k) e e'
not_grouped x k d h m = rw h m

-- a block at its own node is the compact one
pub inner_block : (x : Script) (k : RecordNo) (d : ℕ) {e e' : Engine} {n : ℕ} → n ≡ (node_of x.tree k.0).kind → n ≡ byte_of Kind.Block → Makes x (lay x d (Rule.Block true) k) e e' → Makes x (lay x d Rule.Inner k) e e'
unfolding lay below inner
inner_block x k zero q h m = m
inner_block x k (suc d) q h m = kind_is _ _ _ _ q h m

-- ---- by the kind of the node whose records these are

node_kind : (rs : List Record) {k : RecordNo} {s : Stream} {n : ℕ} → s ≡ records_of rs k → n ≡ (node_of rs k.0).kind → (node_of rs s.node.0).kind ≡ n
node_kind rs h q = ap (λ (z : Stream). (node_of rs z.node.0).kind) h ∙ sym q

module _ {x : Script} (lay : Below) {k : RecordNo} {s s' : Stream} {e e' : Engine} {n : ℕ} (h : s ≡ records_of x.tree k) (q : n ≡ (node_of x.tree k.0).kind) where
  pub range_of_lem : Goes x (range_of x lay n) s e e' s' → Goes x (range x lay) s e e' s'
  unfolding range
  range_of_lem y = record { ran = rw (node_kind x.tree h q) y.ran; at = rw (node_kind x.tree h q) y.at }

  pub lead_of_lem : Goes x (lead_of x lay n) s e e' s' → Goes x (lead x lay) s e e' s'
  unfolding lead
  lead_of_lem y = record { ran = rw (node_kind x.tree h q) y.ran; at = rw (node_kind x.tree h q) y.at }

  pub loop_of_lem : Goes x (loop_of x lay n) s e e' s' → Goes x (loops x lay) s e e' s'
  unfolding loops
  loop_of_lem y = record { ran = rw (node_kind x.tree h q) y.ran; at = rw (node_kind x.tree h q) y.at }

-- ---- an item's own node

module _ {x : Script} (lay : Below) (k : RecordNo) {n : ℕ} {t : Bool} {e e' : Engine} (q : n ≡ (node_of x.tree k.0).kind) (d : t ≡ is_decl n) where
  pub decl_so : t ≡ true → Makes x (parse x.tree (modifiers x.tree ▸ item_rule x lay n) k) e e' → Makes x (decl x lay k) e e'
  unfolding decl
  decl_so h m = rw (← q, ← d, h) m

  pub decl_not : t ≡ false → Makes x (no_item x.tree k) e e' → Makes x (decl x lay k) e e'
  unfolding decl
  decl_not h m = rw (← q, ← d, h) m

-- ---- what stands behind an item's head

module _ {x : Script} (lay : Below) {n : ℕ} {s s' : Stream} {e e' : Engine} where
  pub head_const : n ≡ byte_of Kind.ItemConst → Goes x (pump (lay Rule.Expr)) s e e' s' → Goes x (behind_head x lay n) s e e' s'
  unfolding behind_head
  head_const h y = record { ran = rw (eq-eqb _ _ h) y.ran; at = rw (eq-eqb _ _ h) y.at }

  module _ (h : n ≡ byte_of Kind.ItemConst → ⊥) {t : Bool} (q : t ≡ asks_block x.tree n s) where
    pub head_block : t ≡ true → Goes x (plain (before_block n) ▸ expect x.tree Kind.Block (lay (Rule.Block false))) s e e' s' → Goes x (behind_head x lay n) s e e' s'
    unfolding behind_head
    head_block b y = record { ran = rw (ne_eqb _ _ h, ← q, b) y.ran; at = rw (ne_eqb _ _ h, ← q, b) y.at }

    pub head_none : t ≡ false → Goes x (plain (no_block n)) s e e' s' → Goes x (behind_head x lay n) s e e' s'
    unfolding behind_head
    head_none b y = record { ran = rw (ne_eqb _ _ h, ← q, b) y.ran; at = rw (ne_eqb _ _ h, ← q, b) y.at }

-- ---- operands

pub operands_fall : (rs : List Record) (f : RecordNo → Plan) → Falls (λ (s : Stream). s) (is rs Kind.ExprOperator) (between rs (byte_of Kind.ExprOperator) ▸ pump f)
operands_fall rs f = taking_falls (between_takes rs (byte_of Kind.ExprOperator) takes_then pump_leaves f)
