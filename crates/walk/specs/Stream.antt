-- The records that a rule has left of its node, white space and comments passed over, and what is taken of them. Assumes nothing.
use Rattle.std.specs.Prelude.{◌≡◌, ℕ, Bool, true, false, cond, List, [], ◌∷◌, eqb, Option, Some, None}
use Rattle.std.specs.Borrow.{Bor, MutBor}
use denote.Triple.Both.{Both}
use Rattle.tree.specs.declared.record.Record.{Record}
use Rattle.tree.specs.declared.record.RecordNo.{RecordNo}
use Rattle.tree.specs.Table.{node_of, tree_of}
use Rattle.tree.specs.Cursor.{shown, kept, behind, cursor_of, children_of, head_of}
use Rattle.lent.specs.Loans.{Loan}
use Rattle.walk.specs.declared.stream.Stream as code

pub record Stream : Type 0 where
  pub node : RecordNo
  pub left : List ℕ

abbrev pub stream : RecordNo → List ℕ → Stream
stream k ks = record { node = k; left = ks }

-- the records of node k
abbrev pub records_of : List Record → RecordNo → Stream
records_of rs k = stream k (kept rs (shown rs (children_of rs k.0)))

abbrev pub no : ℕ → RecordNo
no k = record { 0 = k }

-- record k is of the kind with this byte
abbrev pub is_byte : List Record → ℕ → ℕ → Bool
is_byte rs kind k = eqb (node_of rs k).kind kind

-- ---- the next record

abbrev pub next_in : (ℕ → Bool) → List ℕ → Bool
next_in want [] = false
next_in want (k ∷ ks) = want k

abbrev pub next_is : (ℕ → Bool) → Stream → Bool
next_is want s = next_in want s.left

abbrev pub next_of : Stream → Option RecordNo
next_of s = head_of s.left

abbrev pub met_in : RecordNo → List ℕ → RecordNo
met_in node [] = node
met_in node (k ∷ ks) = no k

-- where refusal 8 is given: the record met, or the node where there is none
abbrev pub met : Stream → RecordNo
met s = met_in s.node s.left

pub record Took : Type 0 where
  pub found : Option RecordNo
  pub rest : Stream

abbrev pub took : Option RecordNo → RecordNo → List ℕ → Took
took f node ks = record { found = f; rest = stream node ks }

abbrev pub take_in : (ℕ → Bool) → RecordNo → List ℕ → Took
take_in want node [] = took None node []
take_in want node (k ∷ ks) = cond (want k) (took (Some (no k)) node ks) (took None node (k ∷ ks))

-- the next record, if it is wanted
unfoldable pub take_if : (ℕ → Bool) → Stream → Took
take_if want s = take_in want s.node s.left

-- the next record, whatever it is
abbrev pub take_any : Stream → Took
take_any s = take_if (λ k. true) s

-- ---- in the code: what is lent

-- the records of the table that is lent
abbrev pub tree : Loan → List Record
tree table = tree_of table.entry.now

-- what is kept of a node's records behind record k and all below it, as far as `end`
abbrev pub kept_behind : List Record → ℕ → ℕ → List ℕ
kept_behind rs k end = kept rs (shown rs (cursor_of (behind rs k) end))

-- the next record, if there is one, and what is kept behind it
abbrev pub left_from : List Record → RecordNo → Option RecordNo → List ℕ
left_from rs end (Some k) = k.0 ∷ kept_behind rs k.0 end.0
left_from rs end None = []

unfoldable pub stream_at : List Record → code.Stream → Stream
stream_at rs p = stream p.node (left_from rs p.end p.next)

-- the stream behind record k
abbrev pub passed : List Record → code.Stream → ℕ → Stream
passed rs p k = stream p.node (kept_behind rs k p.end.0)

-- k is the next record
pub record Peeked (s : Stream) (k : Option RecordNo) : Type 0 where
  pub found : k ≡ next_of s

-- what was to be taken was taken
pub record Ate (t : Took) (k : Option RecordNo) (s' : Stream) : Type 0 where
  pub found : k ≡ t.found
  pub rest : s' ≡ t.rest

-- a stream, at entry and at exit: to be read, or to be gone on in
abbrev pub StreamLoan : Type 0
StreamLoan = Both (Bor code.Stream) (Bor code.Stream)

abbrev pub StreamMutLoan : Type 0
StreamMutLoan = Both (MutBor code.Stream) (MutBor code.Stream)

-- the records left in it, before and behind
abbrev pub stream_here : Loan → StreamLoan → Stream
stream_here table p = stream_at (tree table) p.entry.now

abbrev pub stream_in : Loan → StreamMutLoan → Stream
stream_in table p = stream_at (tree table) p.entry.now

abbrev pub stream_out : Loan → StreamMutLoan → Stream
stream_out table p = stream_at (tree table) p.exit.now
