-- Where a chain breaks: format.rs 1182 to 1229. Assumes nothing.
use Rattle.std.specs.Prelude.{ℕ, zero, suc, Bool, false, cond, ◌||◌, List, [], ◌∷◌, Option, Some, None, eqb}
use Rattle.text.specs.declared.span.Span.{Span}
use Rattle.text.specs.Span.{joined}
use Rattle.text.specs.Span as span
use Rattle.width.specs.Count.{is_wide}
use Rattle.tree.specs.declared.record.Record.{Record}
use Rattle.tree.specs.declared.record.RecordNo.{RecordNo}
use Rattle.tree.specs.Table.{node_of}
use Rattle.tree.specs.Cursor.{behind}
use Rattle.kinds.specs.declared.Kind.{Kind}
use Rattle.kinds.specs.Facts.{byte_of}
use Rattle.meaning.specs.State.{Script}
use Rattle.loose.specs.declared.chain.Call.{Call}
use Rattle.loose.specs.Reason.{children_from}

-- a link that stands on a line of its own where the chain breaks: a field or an await
unfoldable pub is_dot : ℕ → Bool
is_dot kind = eqb kind (byte_of Kind.ExprField) || eqb kind (byte_of Kind.ExprAwait)

-- the records of chain k behind its head, as `children` shows them
abbrev pub behind_head : List Record → RecordNo → RecordNo → List ℕ
behind_head rs k head = children_from rs k (behind rs head.0)

-- the first call of these records, and how many stand as far as it; n as far as the first of them
unfoldable pub tail_in : List Record → ℕ → List ℕ → Option Call
tail_in rs n [] = None
tail_in rs n (k ∷ ks) = cond (eqb (node_of rs k).kind (byte_of Kind.ExprCall)) (Some (record { nth = n; at = record { 0 = k } })) (tail_in rs (suc n) ks)

-- a field or an await stands behind the first n of them
unfoldable pub dot_behind : List Record → ℕ → List ℕ → Bool
dot_behind rs n [] = false
dot_behind rs zero (k ∷ ks) = is_dot (node_of rs k).kind || dot_behind rs zero ks
dot_behind rs (suc n) (k ∷ ks) = dot_behind rs n ks

-- the head's span, as far as the first call
unfoldable pub head_of : List Record → RecordNo → Option Call → Span
head_of rs head None = (node_of rs head.0).span
head_of rs head (Some c) = joined (node_of rs head.0).span (span.head_of (node_of rs c.at.0).span)

-- how many records stand as far as it; 1 where there is none, as the Rust counts
unfoldable pub first_in : Option Call → ℕ
first_in None = 1
first_in (Some c) = c.nth

-- a wide chain breaks from its first link on where the head is wide or a dot stands behind the first call, else behind that call
unfoldable pub breaks_at : Script → RecordNo → List ℕ → ℕ
breaks_at x head ks =
    let t = tail_in x.tree 1 ks in
    cond (is_wide x.source (head_of x.tree head t) 80) 0
    (cond (dot_behind x.tree (first_in t) ks) 0 (first_in t))

-- the link from which on chain k breaks; 8,192, which no link has, where its span does not pass 80 or there is no head
unfoldable pub chain_from : Script → RecordNo → Option RecordNo → ℕ
chain_from x k None = 8192
chain_from x k (Some head) = cond (is_wide x.source (node_of x.tree k.0).span 80) (breaks_at x head (behind_head x.tree k head)) 8192
