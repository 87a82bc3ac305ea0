-- What `savetnuok_why` promises, and the calls of a list's rule, loose or compact as is told. Assumes nothing.
use Rattle.std.specs.Prelude.{◌≡◌, ℕ, ◌*◌, ◌≤◌, ◌<◌, Bool, true, false, cond, List, eqb}
use Rattle.tree.specs.declared.record.RecordNo.{RecordNo}
use Rattle.tree.specs.Table.{node_of}
use Rattle.kinds.specs.declared.Kind.{Kind}
use Rattle.kinds.specs.Facts.{byte_of}
use Rattle.meaning.specs.Opening.{script_in}
use Rattle.meaning.specs.Plan.{Plan}
use Rattle.meaning.specs.State.{Script}
use Rattle.lent.specs.Loans.{Loan}
use Rattle.walk.specs.Stream.{Stream}
use Rattle.walk.specs.Flow.{Flow, ◌▸◌, write, expect_byte, expect, parse}
use Rattle.patterns.specs.Pattern.{object_name}
use Rattle.exprs.specs.Rule.{Below}
use Rattle.exprs.specs.List.{loose, compact, rows, row}
use Rattle.exprs.specs.Lay.{lay}
use Rattle.reasons.specs.Why.{why}
use Rattle.reasons.specs.Numbers.{why_seen, packed}
use Rattle.savetnuok.specs.Exported.{layout_of}

-- ---- the answer: the reason's number and place, 0 for a compact list, or the refusal's

pub record Told (src tree : List ℕ) (k : RecordNo) (n : ℕ) : Type 0 where
  pub answer : n ≡ packed (why src tree k)
  pub place_fits : (why_seen (why src tree k)).place < 0x100000000

abbrev pub ToldOn : Loan → Loan → ℕ → ℕ → Type 0
ToldOn source tree k n = Told source.entry.now tree.entry.now (record { 0 = k }) n

-- ---- the layout: `exprs` and `object` of crate `exprs`, with the question answered beforehand

module _ (x : Script) (lay : Below) (is_loose : Bool) where
  abbrev pub exprs_as : ℕ → ℕ → Stream → Flow Stream
  exprs_as opening closing = expect_byte x.tree opening write ▸ cond is_loose (loose x lay) (compact x lay) ▸ expect_byte x.tree closing write

  abbrev pub object_as : Stream → Flow Stream
  object_as = object_name x.tree ▸ expect x.tree Kind.OpenBrace write ▸ cond is_loose (rows x lay) (row x lay)

-- the rule of list k: a call's arguments, an array, else an object
unfoldable pub layout_as : Script → Bool → RecordNo → Plan
layout_as x is_loose k =
    let kind = (node_of x.tree k.0).kind in
    cond (eqb kind (byte_of Kind.ExprCall)) (parse x.tree (exprs_as x (lay x 63) is_loose (byte_of Kind.OpenParenthesis) (byte_of Kind.CloseParenthesis)) k)
    (cond (eqb kind (byte_of Kind.ExprArray)) (parse x.tree (exprs_as x (lay x 63) is_loose (byte_of Kind.OpenBracket) (byte_of Kind.CloseBracket)) k)
    (parse x.tree (object_as x (lay x 63) is_loose) k))

-- 0 is answered exactly if the layout makes the compact calls, and a reason exactly if it makes the loose ones, which are others. A refusal lies below
-- 101 * 2^32, and of the layout nothing is said then
pub record Decides (src tree : List ℕ) (k n : ℕ) : Type 0 where
  pub compact_calls : n ≡ 0 → layout_of src tree k ≡ layout_as (script_in src tree) false (record { 0 = k })
  pub loose_calls : 101 * 0x100000000 ≤ n → layout_of src tree k ≡ layout_as (script_in src tree) true (record { 0 = k })
  pub not_both : layout_as (script_in src tree) false (record { 0 = k }) ≡ layout_as (script_in src tree) true (record { 0 = k }) → ⊥
