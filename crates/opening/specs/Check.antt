-- The check of a tree, computed: records in order, level by level, 3 before 7 in each. Assumes nothing.
use Rattle.std.specs.Prelude.{ℕ, zero, suc, Bool, cond, ◌&&◌, List, [], ◌∷◌, length, take, leb, Result, Ok, Err}
use Rattle.text.specs.Chars.{in_source}
use Rattle.tree.specs.declared.record.Record.{Record}
use Rattle.tree.specs.declared.record.RecordNo.{RecordNo}
use Rattle.opening.specs.declared.levels.Fault.{Fault}
use Rattle.opening.specs.declared.levels.Fault.TheVariants.{Bad, Deep}
use Rattle.tree.specs.Records.{start_of, end_of, records}

-- what is found: nothing wrong, the first record that breaks a rule, or the first that keeps them all and stands too deep
pub data Finding : Type 0 where
  fine : Finding
  bad : ℕ → Finding
  deep : ℕ → Finding

abbrev pub ◌then◌ : Finding → Finding → Finding
fine then g = g
bad i then g = bad i
deep i then g = deep i

infixr 40 ◌then◌
-- the record is whole, its count passes none of the n records behind it in its parent's range, it starts no earlier than lo, where the
-- sibling before it ended or the parent starts, it ends no later than hi, where the parent ends, and its span is one of the source
unfoldable pub keeps : List ℕ → ℕ → ℕ → ℕ → Record → Bool
keeps src lo hi n r = r.whole && (leb r.below n && (leb lo (start_of r) && (leb (end_of r) hi && in_source src r.span)))

-- the siblings in a parent's range, whose records are rs, the first of number i; `under` says what is found below one that keeps the rules.
-- The next k records lie below the sibling before. Record 8,192 is one too many.
unfoldable pub along : List ℕ → (ℕ → Record → List Record → Finding) → ℕ → ℕ → ℕ → ℕ → List Record → Finding
along src under k i lo hi [] = fine
along src under (suc k) i lo hi (r ∷ rs) = along src under k (suc i) lo hi rs
along src under zero i lo hi (r ∷ rs) =
    cond (leb 8192 i) (bad 8192)
    (cond (keeps src lo hi (length rs) r) (under i r rs then along src under r.below (suc i) (end_of r) hi rs) (bad i))

-- a level with d levels left, itself one of them: where none is left, a record that keeps the rules stands too deep
unfoldable pub level : List ℕ → ℕ → ℕ → ℕ → ℕ → ℕ → List Record → Finding
level src zero = along src (λ i r rs. deep i)
level src (suc d) = along src (λ i r rs. level src d 0 (suc i) (start_of r) (end_of r) (take r.below rs))

-- a good tree with so many records, or why it is refused
abbrev pub Verdict : Type 0
Verdict = Result RecordNo Fault

abbrev pub verdict_as : Finding → ℕ → Verdict
verdict_as fine n = Ok (record { 0 = n })
verdict_as (bad i) n = Err (Bad (record { 0 = i }))
verdict_as (deep i) n = Err (Deep (record { 0 = i }))

-- the whole list: 64 levels, the top level among them
unfoldable pub checked : List ℕ → List ℕ → Verdict
checked src list = verdict_as (level src 64 0 0 0 (length src) (records list)) (length (records list))

-- document 01's number of the refusal, 0 where there is none, and its place
abbrev pub number_of : Verdict → ℕ
number_of (Ok n) = 0
number_of (Err (Bad i)) = 3
number_of (Err (Deep i)) = 7

abbrev pub place_of : Verdict → ℕ
place_of (Ok n) = 0
place_of (Err (Bad i)) = i.0
place_of (Err (Deep i)) = i.0
