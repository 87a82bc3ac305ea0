-- A node's children as a list of record numbers, and the cursor over them. Assumes nothing.
use Rattle.std.specs.Prelude.{ℕ, zero, suc, ◌+◌, ◌-◌, min, Bool, true, false, cond, List, [], ◌∷◌, length, take, drop, ltb, Option, Some, None}
use Rattle.tree.specs.declared.record.Record.{Record}
use Rattle.tree.specs.declared.record.RecordNo.{RecordNo}
use Rattle.tree.specs.declared.cursor.Cursor.{Cursor}
use Rattle.tree.specs.Table.{node_of}

-- ---- siblings

-- the numbers of the siblings among records of numbers from i on: each skips the records below it. The next k lie below the one before
unfoldable pub siblings : ℕ → ℕ → List Record → List ℕ
siblings k i [] = []
siblings (suc k) i (r ∷ rs) = siblings k (suc i) rs
siblings zero i (r ∷ rs) = i ∷ siblings r.below (suc i) rs

-- every record that the cursor has left at its level
unfoldable pub shown : List Record → Cursor → List ℕ
shown rs c = siblings 0 c.at.0 (take (c.end.0 - c.at.0) (drop c.at.0 rs))

-- white space, a line comment, a block comment
unfoldable pub passes : Record → Bool
passes r = ltb r.kind 3

-- of these numbers, those whose records are none of the three
unfoldable pub kept : List Record → List ℕ → List ℕ
kept rs [] = []
kept rs (k ∷ ks) = cond (passes (node_of rs k)) (kept rs ks) (k ∷ kept rs ks)

-- ---- where a node's records lie

-- the first record behind k and all below it; where there is none, the number of records
unfoldable pub behind : List Record → ℕ → ℕ
behind rs k = min (length rs) (suc k + (node_of rs k).below)

abbrev pub cursor_of : ℕ → ℕ → Cursor
cursor_of at end = record { at = record { 0 = at }; end = record { 0 = end } }

-- a cursor over the children of k, and over the top level of n records
abbrev pub children_of : List Record → ℕ → Cursor
children_of rs k = cursor_of (min (length rs) (suc k)) (behind rs k)

abbrev pub top_of : ℕ → Cursor
top_of n = cursor_of 0 n

-- ---- the cursor's answers

abbrev pub head_of : List ℕ → Option RecordNo
head_of [] = None
head_of (k ∷ ks) = Some (record { 0 = k })

-- what a record number says was found: nothing, where it is past every table
unfoldable pub found_of : RecordNo → Option RecordNo
found_of k = cond (ltb k.0 8192) (Some k) None

-- the next record, behind white space and comments
abbrev pub peek_of : List Record → Cursor → Option RecordNo
peek_of rs c = head_of (kept rs (shown rs c))

-- the next record, white space and comments too
abbrev pub first_of : List Record → Cursor → Option RecordNo
first_of rs c = head_of (shown rs c)

-- what was taken, and the cursor behind it
pub record Taken : Type 0 where
  pub found : Option RecordNo
  pub rest : Cursor

-- what is taken, and the cursor behind it and all below it; where there is none, the cursor stays
abbrev pub taken_as : List Record → Cursor → Option RecordNo → Taken
taken_as rs c (Some k) = record { found = Some k; rest = record { at = record { 0 = behind rs k.0 }; end = c.end } }
taken_as rs c None = record { found = None; rest = c }

abbrev pub take_of : List Record → Cursor → Taken
take_of rs c = taken_as rs c (peek_of rs c)

abbrev pub child_of : List Record → Cursor → Taken
child_of rs c = taken_as rs c (first_of rs c)

abbrev pub is_none : Option RecordNo → Bool
is_none (Some k) = false
is_none None = true

abbrev pub eof_of : List Record → Cursor → Bool
eof_of rs c = is_none (peek_of rs c)
