-- Which tables have room for a tree: the full one for all, a smaller one for short ones. Assumes nothing.
use Prim.Native.Nat.{ℕ, zero, suc, ◌≤◌, ◌+◌, ◌*◌}
use native.Mathlib.Omega.{arith}
use mathlib.Core.Path.{◌≡◌}
use mathlib.Core.Bool.{Bool, true, false, cond}
use mathlib.Core.List.{List, [], ◌∷◌}
use lib.ListN.{length}
use lib.Dec.{ltb}
use Rattle.tree.specs.Records.{body_of, records_from}
use Rattle.entry.specs.Room.{Room}

pub full_room : (list words : List ℕ) → length words ≡ 32768 → Room list words
full_room list words e few = omega (arith, few)

body_long : (b : ℕ) → 8 ≤ body_of b
unfolding body_of
body_long b = go (ltb b 0x80)
  where
    go : (t : Bool) → 8 ≤ cond t 8 12
    go true = omega arith
    go false = omega arith

-- a record takes nine bytes or more, the last one at least its kind; m of the bytes in front belong to the one before
records_short : (k : ℕ) (s : List ℕ) (m : ℕ) → m ≤ k → m ≤ 8 → length (records_from k s) * 9 + m ≤ length s + 8
unfolding records_from
records_short k [] m h l = omega arith
records_short (suc k) (b ∷ bs) zero h l = omega (arith, records_short k bs 0 (omega arith) (omega arith))
records_short (suc k) (b ∷ bs) (suc m) h l = omega (arith, records_short k bs m (omega arith) (omega arith))
records_short zero (b ∷ bs) m h l = omega (arith, records_short (body_of b) bs 8 (body_long b) (omega arith))

-- a table of n records has room for every tree of nine bytes a record
pub short_room : (list words : List ℕ) (n : ℕ) → length list ≤ n * 9 → length words ≡ n * 4 → Room list words
short_room list words n h e few = omega (arith, records_short 0 list 0 (omega arith) (omega arith))
