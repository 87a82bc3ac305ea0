-- Document 01's rule in its own words: which lists go loose, and what each reason says of its node. Assumes nothing.
use Rattle.std.specs.Prelude.{◌≡◌, ℕ, suc, ◌≤◌, Bool, true, false, cond, ◌||◌, List, [], ◌∷◌, ◌++◌, Option, Some, None, eqb, leb}
use Rattle.tree.specs.declared.record.Record.{Record}
use Rattle.tree.specs.declared.record.RecordNo.{RecordNo}
use Rattle.tree.specs.Table.{node_of}
use Rattle.tree.specs.Cursor.{behind, children_of, peek_of}
use Rattle.kinds.specs.declared.Kind.{Kind}
use Rattle.kinds.specs.Facts.{byte_of}
use Rattle.width.specs.Count.{is_wide, place_in}
use Rattle.meaning.specs.State.{Script}
use Rattle.loose.specs.declared.reason.Reason.{Reason}
use Rattle.loose.specs.declared.reason.Reason.TheVariants.{Wide, Comment, Sixth}
use Rattle.loose.specs.Reason.{is_entry, children_from}
use Rattle.reasons.specs.Why.{is_list, is_name}

-- the node's span passes 80
abbrev pub too_wide : Script → RecordNo → Bool
too_wide x k = is_wide x.source (node_of x.tree k.0).span 80

abbrev pub is_note : List Record → ℕ → Bool
is_note rs k = eqb (node_of rs k).kind (byte_of Kind.Comment)

-- a line comment is among these records
unfoldable pub noted : List Record → List ℕ → Bool
noted rs [] = false
noted rs (k ∷ ks) = is_note rs k || noted rs ks

-- how many of them are Exprs, or keys
unfoldable pub entries : List Record → Bool → List ℕ → ℕ
entries rs keys [] = 0
entries rs keys (k ∷ ks) = cond (is_entry keys (node_of rs k).kind) (suc (entries rs keys ks)) (entries rs keys ks)

-- loose exactly if the span passes 80, or a line comment is a direct child (for an object, behind its name), or there are six or more
unfoldable pub goes_loose : Script → Bool → RecordNo → ℕ → Bool
goes_loose x keys k from =
    let ks = children_from x.tree k from in
    too_wide x k || (noted x.tree ks || leb 6 (entries x.tree keys ks))

-- record c is one of these; before it no line comment, and so many entries
pub record Among (rs : List Record) (keys : Bool) (ks : List ℕ) (c : ℕ) (n : ℕ) : Type 0 where
  pub before : List ℕ
  pub after : List ℕ
  pub cut : ks ≡ before ++ (c ∷ after)
  pub no_note : noted rs before ≡ false
  pub count : entries rs keys before ≡ n

-- what each reason says of node k, whose records count from one on
pub data True (x : Script) (keys : Bool) (k : RecordNo) (from : ℕ) : Option Reason → Type 0 where
  wide : too_wide x k ≡ true → True x keys k from (Some (Wide (place_in x.source (node_of x.tree k.0).span 80)))
  note : {c : RecordNo} {n : ℕ} → too_wide x k ≡ false → Among x.tree keys (children_from x.tree k from) c.0 n → n ≤ 5
      → is_note x.tree c.0 ≡ true → True x keys k from (Some (Comment c))
  sixth : {c : RecordNo} → too_wide x k ≡ false → Among x.tree keys (children_from x.tree k from) c.0 5
      → is_entry keys (node_of x.tree c.0).kind ≡ true → is_note x.tree c.0 ≡ false → True x keys k from (Some (Sixth c))
  fits : goes_loose x keys k from ≡ false → True x keys k from None

-- of a list its own records count, of an object those behind its name
pub data TrueOf (x : Script) (k : RecordNo) (r : Option Reason) : Type 0 where
  of_list : is_list (node_of x.tree k.0).kind ≡ true → True x false k (children_of x.tree k.0).at.0 r → TrueOf x k r
  of_object_lem : {name : RecordNo} → eqb (node_of x.tree k.0).kind (byte_of Kind.ExprObject) ≡ true → peek_of x.tree (children_of x.tree k.0) ≡ Some name
      → is_name (node_of x.tree name.0).kind ≡ true → True x true k (behind x.tree name.0) r → TrueOf x k r
