-- What is told of a node, by the branch that the code took. Assumes nothing.
use Rattle.text.proofs.Base.{◌≡◌, refl, ap, ◌∙◌, Bool, true, false, List, ℕ, ◌*◌, ◌≤◌, ◌<◌, arith, length, take, eq-eqb, ne_eqb}
use Rattle.std.specs.Prelude.{Option, Ok, Err}
use borrow.Author.Tests.{le-leb, lt-leb}
use Rattle.tree.specs.declared.record.RecordNo.{RecordNo}
use Rattle.tree.specs.declared.cursor.Cursor.{Cursor}
use Rattle.tree.specs.Records.{records}
use Rattle.tree.specs.Table.{node_of, tree_of, Decoded}
use Rattle.tree.specs.Cursor.{behind, children_of, peek_of}
use Rattle.tree.proofs.Laws.{table_whole}
use Rattle.kinds.specs.declared.Kind.{Kind}
use Rattle.kinds.specs.Facts.{byte_of}
use Rattle.opening.specs.Opening.{Opening}
use Rattle.opening.specs.declared.open.Unopened.TheVariants as found
use Rattle.opening.specs.Opening.{opened}
use Rattle.opening.proofs.Laws.{open_good}
use Rattle.meaning.specs.declared.answer.Refusal.TheVariants.{WrongKind, NoRule, NoNode}
use Rattle.meaning.specs.Answer.{Answer}
use Rattle.meaning.specs.State.{Script}
use Rattle.meaning.specs.Opening.{answer_to, opening, script_in}
use Rattle.lent.specs.View.{script_of}
use Rattle.entry.specs.Room.{Room}
use Rattle.loose.specs.declared.reason.Reason.{Reason}
use Rattle.loose.specs.Reason.{reason}
use Rattle.reasons.specs.Why.{Why, is_list, is_name, of_named, of_first, of_object, of_kind, why_at, on_opened, why}

module _ (x : Script) (k : RecordNo) where
  -- ---- an object

  module _ (name : RecordNo) {kind : ℕ} (q : kind ≡ (node_of x.tree name.0).kind) {t : Bool} (p : t ≡ is_name kind) where
    pub named : {from : RecordNo} {r : Option Reason} → t ≡ true → from.0 ≡ behind x.tree name.0 → r ≡ reason x true k from.0 → Ok r ≡ of_named x k name
    unfolding of_named
    named h b e = rw (← q, ← p, h) (ap Ok (e ∙ ap (reason x true k) b))

    pub nameless : t ≡ false → Err (WrongKind name) ≡ of_named x k name
    unfolding of_named
    nameless h = rw (← q, ← p, h)

  pub by_first : {c : Cursor} {f : Option RecordNo} {w : Why} → c ≡ children_of x.tree k.0 → f ≡ peek_of x.tree c → w ≡ of_first x k f → w ≡ of_object x k
  unfolding of_object
  by_first ec ef e = e ∙ ap (of_first x k) (ef ∙ ap (peek_of x.tree) ec)

  -- ---- by the node's kind

  pub no_node : length x.tree ≤ k.0 → Err (NoNode k) ≡ why_at x k
  unfolding why_at
  no_node h = rw (le-leb (length x.tree) k.0 h)

  module _ (h : k.0 < length x.tree) {kind : ℕ} (q : kind ≡ (node_of x.tree k.0).kind) where
    by_kind : {w : Why} → w ≡ of_kind x kind k → w ≡ why_at x k
    unfolding why_at
    by_kind e = rw (lt-leb (length x.tree) k.0 h, ← q) e

    module _ {t : Bool} (p : t ≡ is_list kind) where
      pub a_list : {c : Cursor} {r : Option Reason} → t ≡ true → c ≡ children_of x.tree k.0 → r ≡ reason x false k c.at.0 → Ok r ≡ why_at x k
      unfolding of_kind
      a_list g ec e = by_kind (rw (← p, g) (ap Ok (e ∙ ap (λ (z : Cursor). reason x false k z.at.0) ec)))

      pub an_object : {w : Why} → t ≡ false → kind ≡ byte_of Kind.ExprObject → w ≡ of_object x k → w ≡ why_at x k
      unfolding of_kind
      an_object g o e = by_kind (rw (← p, g, eq-eqb _ _ o) e)

      pub neither : t ≡ false → (kind ≡ byte_of Kind.ExprObject → ⊥) → Err (NoRule k) ≡ why_at x k
      unfolding of_kind
      neither g o = by_kind (rw (← p, g, ne_eqb _ _ o))

-- ---- over bytes: where opening lets the tree in, the table is the tree

pub table_is : (src list words table : List ℕ) (n : RecordNo) → Decoded list words n.0 table → Room list words → opening src list ≡ Ok tt → tree_of (take (n.0 * 4) table) ≡ records list
table_is src list words table n d room = go (opened src list) refl
  where
    go : (o : Opening) → opened src list ≡ o → answer_to o ≡ Ok tt → tree_of (take (n.0 * 4) table) ≡ records list
    go (Ok m) e h = let g = open_good e in (table_whole d g.tree.few (room g.tree.few)).1
    go (Err found.SourceLong) e h = let z : ◌≡◌ {A = ℕ} 0 1 = cc in absurd (omega arith)
    go (Err (found.SourceIll i)) e h = let z : ◌≡◌ {A = ℕ} 0 1 = cc in absurd (omega arith)
    go (Err (found.TreeBad i)) e h = let z : ◌≡◌ {A = ℕ} 0 1 = cc in absurd (omega arith)
    go (Err (found.TreeDeep i)) e h = let z : ◌≡◌ {A = ℕ} 0 1 = cc in absurd (omega arith)

pub over_table : (src list words table : List ℕ) (n k : RecordNo) → Decoded list words n.0 table → Room list words → opening src list ≡ Ok tt
    → {tb : List ℕ} {w : Why} → tb ≡ take (n.0 * 4) table → w ≡ why_at (script_of src tb) k → w ≡ why_at (script_in src list) k
over_table src list words table n k d room h et e = rw (← table_is src list words table n d room h, ← et) e

pub by_opening : (src list : List ℕ) (k : RecordNo) {a : Answer} {w : Why} → a ≡ opening src list → w ≡ on_opened a (why_at (script_in src list) k) → w ≡ why src list k
unfolding why
by_opening src list k ea e = rw (← ea) e
