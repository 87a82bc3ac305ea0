-- Why a node goes over several lines, or why that is not told: a refusal. Assumes nothing.
use Rattle.std.specs.Prelude.{ℕ, Bool, true, false, cond, ◌||◌, List, Option, Result, Ok, Err, length, eqb, leb, Some, None}
use Rattle.tree.specs.declared.record.RecordNo.{RecordNo}
use Rattle.tree.specs.Table.{node_of}
use Rattle.tree.specs.Cursor.{behind, children_of, peek_of}
use Rattle.kinds.specs.declared.Kind.{Kind}
use Rattle.kinds.specs.Facts.{byte_of}
use Rattle.meaning.specs.declared.answer.Refusal.{Refusal}
use Rattle.meaning.specs.declared.answer.Refusal.TheVariants.{WrongKind, NoRule, NoNode}
use Rattle.meaning.specs.Answer.{Answer}
use Rattle.meaning.specs.State.{Script}
use Rattle.meaning.specs.Opening.{opening, script_in}
use Rattle.loose.specs.declared.reason.Reason.{Reason}
use Rattle.loose.specs.Reason.{reason}

-- the reason, none for a compact list; or the refusal
abbrev pub Why : Type 0
Why = Result (Option Reason) Refusal

-- what `exprs` lays out: a call's arguments, an array
unfoldable pub is_list : ℕ → Bool
is_list kind = eqb kind (byte_of Kind.ExprCall) || eqb kind (byte_of Kind.ExprArray)

-- an object's name: `#`, or a path
unfoldable pub is_name : ℕ → Bool
is_name kind = eqb kind (byte_of Kind.AnonymousObjectKey) || eqb kind (byte_of Kind.Path)

-- of an object with this first record: the records behind its name decide; another kind there is 8, as the object's own rule refuses it
unfoldable pub of_named : Script → RecordNo → RecordNo → Why
of_named x k name =
    cond (is_name (node_of x.tree name.0).kind) (Ok (reason x true k (behind x.tree name.0))) (Err (WrongKind name))

-- none there is 8 at the object
unfoldable pub of_first : Script → RecordNo → Option RecordNo → Why
of_first x k (Some name) = of_named x k name
of_first x k None = Err (WrongKind k)

unfoldable pub of_object : Script → RecordNo → Why
of_object x k = of_first x k (peek_of x.tree (children_of x.tree k.0))

-- 9 for a node that is neither
unfoldable pub of_kind : Script → ℕ → RecordNo → Why
of_kind x kind k =
    cond (is_list kind) (Ok (reason x false k (children_of x.tree k.0).at.0))
    (cond (eqb kind (byte_of Kind.ExprObject)) (of_object x k) (Err (NoRule k)))

-- 11 first
unfoldable pub why_at : Script → RecordNo → Why
why_at x k = cond (leb (length x.tree) k.0) (Err (NoNode k)) (of_kind x (node_of x.tree k.0).kind k)

-- before all else 1, 2, 3, 7
abbrev pub on_opened : Answer → Why → Why
on_opened (Ok tt) w = w
on_opened (Err r) w = Err r

unfoldable pub why : List ℕ → List ℕ → RecordNo → Why
why src tree k = on_opened (opening src tree) (why_at (script_in src tree) k)
