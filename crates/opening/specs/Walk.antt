-- How the check's code walks a level, for the functions that make it up. Assumes nothing.
use Rattle.std.specs.Prelude.{◌≡◌, ℕ, ◌+◌, ◌-◌, ◌≤◌, ◌<◌, cond, List, length, take, drop, get_or, leb, Result, Ok, Err}
use Rattle.tree.specs.declared.record.Record.{Record}
use Rattle.opening.specs.declared.levels.Part.{Part}
use Rattle.opening.specs.declared.levels.Leaves.{Leaves}
use Rattle.opening.specs.declared.levels.Fault.{Fault}
use Rattle.opening.specs.declared.levels.Fault.TheVariants.{Bad, Deep}
use Rattle.tree.specs.Records.{body_of, record_at, records}
use Rattle.opening.specs.Check.{Finding, fine, bad, deep, keeps, level}

-- from byte i to byte r .at stand r .n .0 leaves and nothing else, up to the list's end or a composite
pub record PastLeaves (list : List ℕ) (i : ℕ) (r : Leaves) : Type 0 where
  pub forth : i ≤ r.at
  pub counted : r.n.0 + length (records (drop r.at list)) ≡ length (records (drop i list))
  pub stops : r.at < length list → 0x80 ≤ get_or list r.at 0

-- the record that stands first in a part
abbrev pub head_of : List ℕ → Part → Record
head_of list p = record_at (drop p.at list)

-- what is found of r, where it stands first in a part
unfoldable pub next_of : List ℕ → Part → Record → ℕ → Result (Unit {0}) Fault
next_of src p r hi =
    cond (leb 8192 p.first.0) (Err (Bad (record { 0 = 8192 })))
    (cond (keeps src p.from.0 hi (p.left.0 - 1) r) (Ok tt) (Err (Bad p.first)))

abbrev pub inside_of : Part → Record → Part
inside_of p r = record { at = p.at + 1 + body_of r.kind; first = record { 0 = p.first.0 + 1 }; left = record { 0 = r.below }; from = r.span.start }

abbrev pub behind_of : Part → Record → ℕ → Part
behind_of p r e = record { at = e; first = record { 0 = p.first.0 + 1 + r.below }; left = record { 0 = p.left.0 - 1 - r.below }; from = r.span.end }

-- the list has the records of the part
pub record Holds (list : List ℕ) (p : Part) : Type 0 where
  pub within : p.at ≤ length list
  pub enough : p.left.0 ≤ length (records (drop p.at list))
  pub small : p.first.0 ≤ 8192

-- the records of a part
abbrev pub records_of : List ℕ → Part → List Record
records_of list p = take p.left.0 (records (drop p.at list))

abbrev pub finding_of : Result ℕ Fault → Finding
finding_of (Ok at) = fine
finding_of (Err (Bad i)) = bad i.0
finding_of (Err (Deep i)) = deep i.0

-- of a walk over a part: what the level finds, and where it is good the byte behind
pub record Walk (src list : List ℕ) (p : Part) (hi d : ℕ) (w : Result ℕ Fault) : Type 0 where
  pub says : finding_of w ≡ level src d 0 p.first.0 p.from.0 hi (records_of list p)
  pub ends : (at : ℕ) → w ≡ Ok at → (at ≤ length list) × (records (drop at list) ≡ drop p.left.0 (records (drop p.at list)))
