-- Newlines. Assumes nothing.
use mathlib.Core.Bool.{Bool, true, false, cond}
use mathlib.Core.List.{List, [], ◌∷◌}
use Prim.Native.Nat.{ℕ, ◌≤◌, zero-le}
use native.Mathlib.Omega.{arith}
use lib.Dec.{eqb}
use lib.ListN.{length}
use Rattle.text.specs.Lines.{newlines}

one_at_most : (t : Bool) → cond t 1 0 ≤ 1
one_at_most true = omega arith
one_at_most false = omega arith

pub newlines_le : (s : List ℕ) → newlines s ≤ length s
unfolding newlines
newlines_le [] = zero-le
newlines_le (b ∷ bs) = omega (arith, one_at_most (eqb b 0x0A), newlines_le bs)
