-- How far a walk over a text has come, for the loops that count its characters. Assumes nothing.
use Rattle.std.specs.Prelude.{◌≡◌, ℕ, ◌+◌, ◌≤◌, true, List, length, take, drop}
use Rattle.encoding.specs.Utf8.{all_plain}
use Rattle.text.specs.Chars.{chars}
use Rattle.width.specs.Count.{dark}

-- the 32 bytes at i are there, and none is over 7F
pub record PlainBlock (t : List ℕ) (i : ℕ) : Type 0 where
  pub within : i + 32 ≤ length t
  pub plain : all_plain (take 32 (drop i t)) ≡ true

-- from place i to place j stand n characters outside White_Space
pub record Tallied (t : List ℕ) (i j n : ℕ) : Type 0 where
  pub few : i + n ≤ j
  pub within : j ≤ length t
  pub whole : n + dark (chars (drop j t)) ≡ dark (chars (drop i t))
