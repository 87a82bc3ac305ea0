-- The buffer: what stores at the output's end leave, and what a refused run leaves. Assumes nothing.
use mathlib.Core.Path.{◌≡◌, refl, ap}
use Prim.Native.Nat.{ℕ, zero, suc, ◌+◌, ◌-◌, ◌≤◌}
use native.Mathlib.Nat.{suc-sub-suc, zero-sub}
use native.Mathlib.Omega.{arith}
use mathlib.Core.List.{List, [], ◌∷◌, ◌++◌, append_assoc}
use lib.ListN.{length, take, drop, replicate, length-append, length-take, length-replicate}
use lib.Seq.{take_at, drop_at, length-take-le, sets, sets-eq}
use Rattle.meaning.specs.Plan.{zeroed}

-- ---- a success

module _ (buf bs : List ℕ) (n : ℕ) (h : n + length bs ≤ length buf) where
  front_length : length (take n buf ++ bs) ≡ n + length bs
  front_length = rw (length-append (take n buf), length-take-le n buf (omega arith))

  pub sets_output : take (n + length bs) (sets buf n bs) ≡ take n buf ++ bs
  sets_output = rw (sets-eq bs buf n h) (take_at (take n buf ++ bs) (drop (n + length bs) buf) (n + length bs) front_length)

  pub sets_below : take n (sets buf n bs) ≡ take n buf
  sets_below = rw (sets-eq bs buf n h, append_assoc (take n buf)) (take_at (take n buf) _ n (length-take-le n buf (omega arith)))

  pub sets_beyond : drop (n + length bs) (sets buf n bs) ≡ drop (n + length bs) buf
  sets_beyond = rw (sets-eq bs buf n h) (drop_at (take n buf ++ bs) (drop (n + length bs) buf) (n + length bs) front_length)

-- ---- a refused run

pub zeroed_length : (n : ℕ) (buf : List ℕ) → length (zeroed n buf) ≡ length buf
unfolding zeroed
zeroed_length n buf = simp (length-append, length-take, length-replicate) (omega arith)

pub zeroed_below : (n : ℕ) (buf : List ℕ) → take n (zeroed n buf) ≡ take n buf
unfolding zeroed
zeroed_below zero buf = refl
zeroed_below (suc n) [] = rw zero-sub
zeroed_below (suc n) (b ∷ bs) = rw suc-sub-suc (ap (b ∷◌) (zeroed_below n bs))

pub zeroed_beyond : (n : ℕ) (buf : List ℕ) → drop n (zeroed n buf) ≡ replicate (length buf - n) 0
unfolding zeroed
zeroed_beyond zero buf = refl
zeroed_beyond (suc n) [] = rw zero-sub
zeroed_beyond (suc n) (b ∷ bs) = rw suc-sub-suc (zeroed_beyond n bs)
