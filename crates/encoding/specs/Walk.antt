-- How far a walk over a text has come, for the loops that check it. Assumes nothing.
use Rattle.std.specs.Prelude.{◌≡◌, ℕ, ◌≤◌, ◌<◌, List, length, drop, get_or, Result, Ok, Err}
use Rattle.encoding.specs.declared.utf8.IllFormed.{IllFormed}
use Rattle.encoding.specs.Utf8.{formed_from}

-- the byte at i is there, and lies from lo up to, not including, hi
pub record ByteIn (s : List ℕ) (i lo hi : ℕ) : Type 0 where
  pub here : i < length s
  pub low : lo ≤ get_or s i 0
  pub high : get_or s i 0 < hi

-- from place i to place j nothing is ill-formed
pub record Past (s : List ℕ) (i j : ℕ) : Type 0 where
  pub forth : i ≤ j
  pub within : j ≤ length s
  pub same : formed_from 0 j (drop j s) ≡ formed_from 0 i (drop i s)

-- the same, up to the end or a byte over 7F
pub record PlainTo (s : List ℕ) (i j : ℕ) : Type 0 where
  pub past : Past s i j
  pub stops : j < length s → 0x80 ≤ get_or s j 0

-- the same, and at least one sequence further where the first byte is over 7F; or an ill-formed sequence
abbrev pub wide_to : List ℕ → ℕ → Result ℕ IllFormed → Type 0
wide_to s i (Ok j) = Past s i j × (i < length s → 0x80 ≤ get_or s i 0 → i < j)
wide_to s i (Err e) = formed_from 0 i (drop i s) ≡ Err e
