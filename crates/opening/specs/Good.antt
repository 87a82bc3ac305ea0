-- A good tree, as a sentence and not as a computation. Assumes nothing.
use Rattle.std.specs.Prelude.{◌≡◌, ℕ, suc, ◌≤◌, true, List, [], ◌∷◌, ◌++◌, length}
use Rattle.text.specs.Chars.{edge}
use Rattle.tree.specs.declared.record.Record.{Record}
use Rattle.tree.specs.Records.{records, start_of, end_of}

-- a record by itself: not cut short; start ≤ end ≤ source length, both on character boundaries; it starts no earlier than lo, where its
-- predecessor ends or its parent starts, and ends no later than hi, where its parent ends
pub record GoodRecord (src : List ℕ) (lo hi : ℕ) (r : Record) : Type 0 where
  pub whole : r.whole ≡ true
  pub after : lo ≤ start_of r
  pub order : start_of r ≤ end_of r
  pub within : end_of r ≤ hi
  pub inside : end_of r ≤ length src
  pub start_on : edge (start_of r) src ≡ true
  pub end_on : edge (end_of r) src ≡ true

-- the records of a parent's range, with d levels left: siblings in order, each with exactly as many records below it as it says, none of
-- them past its parent's last, and these a good level inside its own span
pub data GoodLevel (src : List ℕ) : ℕ → ℕ → ℕ → List Record → Type 0 where
  none : {d lo hi : ℕ} → GoodLevel src d lo hi []
  more : {d lo hi : ℕ} (r : Record) (below behind : List Record) →
      GoodRecord src lo hi r → length below ≡ r.below →
      GoodLevel src d (start_of r) (end_of r) below →
      GoodLevel src (suc d) (end_of r) hi behind →
      GoodLevel src (suc d) lo hi (r ∷ (below ++ behind))

-- at most 8,192 records, 64 levels at most, the top level inside the source
pub record GoodTree (src list : List ℕ) : Type 0 where
  pub few : length (records list) ≤ 8192
  pub levels : GoodLevel src 64 0 (length src) (records list)
