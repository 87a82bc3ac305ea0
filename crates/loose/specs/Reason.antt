-- Why a list of expressions or the keys of an object go loose: format.rs 431 to 441 and 784 to 794. Assumes nothing.
use Rattle.std.specs.Prelude.{ℕ, suc, Bool, true, false, cond, ◌||◌, List, [], ◌∷◌, Option, Some, None, is_some, eqb}
use Rattle.width.specs.Count.{is_wide, place_in}
use Rattle.tree.specs.declared.record.Record.{Record}
use Rattle.tree.specs.declared.record.RecordNo.{RecordNo}
use Rattle.tree.specs.Table.{node_of}
use Rattle.tree.specs.Cursor.{shown, behind, cursor_of}
use Rattle.kinds.specs.declared.Kind.{Kind}
use Rattle.kinds.specs.Facts.{byte_of}
use Rattle.meaning.specs.State.{Script}
use Rattle.loose.specs.declared.reason.Reason.{Reason}
use Rattle.loose.specs.declared.reason.Reason.TheVariants.{Wide, Comment, Sixth}

-- what counts among the six: a key of an object, else the Rust's Expr
unfoldable pub is_entry : Bool → ℕ → Bool
is_entry true kind = eqb kind (byte_of Kind.ObjectKey)
is_entry false kind = eqb kind (byte_of Kind.Expr) || eqb kind (byte_of Kind.ExprSemi)

-- of these records, with n entries before them: a line comment, or the sixth entry, whichever comes first
unfoldable pub crowd : List Record → Bool → ℕ → List ℕ → Option Reason
crowd rs keys n [] = None
crowd rs keys n (k ∷ ks) =
    let kind = (node_of rs k).kind in
    cond (eqb kind (byte_of Kind.Comment)) (Some (Comment (record { 0 = k })))
    (cond (is_entry keys kind) (cond (eqb n 5) (Some (Sixth (record { 0 = k }))) (crowd rs keys (suc n) ks))
    (crowd rs keys n ks))

-- the records of node k from one on, as `children` shows them: white space and comments, too
abbrev pub children_from : List Record → RecordNo → ℕ → List ℕ
children_from rs k from = shown rs (cursor_of from (behind rs k.0))

-- width first: the span of node k passes 80, at the character that has 80 before it; then what stands among its records from one on
unfoldable pub reason : Script → Bool → RecordNo → ℕ → Option Reason
reason x keys k from =
    let span = (node_of x.tree k.0).span in
    cond (is_wide x.source span 80) (Some (Wide (place_in x.source span 80))) (crowd x.tree keys 0 (children_from x.tree k from))

-- loose exactly if there is a reason
abbrev pub is_loose : Option Reason → Bool
is_loose why = is_some why
