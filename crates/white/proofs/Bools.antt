-- Tests that antt computes, and what follows from them. Assumes nothing.
use mathlib.Core.Path.{◌≡◌, refl}
use mathlib.Core.Logic.{◌⊎◌, inl, inr}
use mathlib.Core.Bool.{Bool, true, false, not, ◌&&◌, ◌||◌, false≢true}
use Prim.Native.Nat.{ℕ, zero, suc, ◌≤◌, ◌<◌}
use native.Mathlib.Omega.{arith}
use lib.Dec.{leb}
use borrow.Author.Tests.{le-leb, lt-leb, leb-true, leb-false}

pub and_l : (a b : Bool) → a && b ≡ true → a ≡ true
and_l true b e = refl
and_l false b e = e

pub and_r : (a b : Bool) → a && b ≡ true → b ≡ true
and_r true b e = e
and_r false b e = absurd (false≢true e)

pub and_true : (a : Bool) → a && true ≡ a
and_true true = refl
and_true false = refl

pub and_assoc : (a b c : Bool) → (a && b) && c ≡ a && (b && c)
and_assoc true b c = refl
and_assoc false b c = refl

pub and_false : (a : Bool) → a && false ≡ false
and_false true = refl
and_false false = refl

pub or_true : (a : Bool) → a || true ≡ true
or_true true = refl
or_true false = refl

pub or_cases : (a b : Bool) → a || b ≡ true → (a ≡ true) ⊎ (b ≡ true)
or_cases true b e = inl refl
or_cases false b e = inr e

pub le_or_lt : (a b : ℕ) → (a ≤ b) ⊎ (b < a)
le_or_lt a b = go (leb a b) refl
  where
    go : (t : Bool) → leb a b ≡ t → (a ≤ b) ⊎ (b < a)
    go true e = inl (leb-true a b e)
    go false e = inr (leb-false a b e)

pub high : (b : ℕ) → leb 0xC0 b ≡ not (leb b 0xBF)
high b = go (leb b 0xBF) refl
  where
    go : (t : Bool) → leb b 0xBF ≡ t → leb 0xC0 b ≡ not t
    go true e = lt-leb 0xC0 b (omega (arith, leb-true b 0xBF e))
    go false e = le-leb 0xC0 b (omega (arith, leb-false b 0xBF e))

-- f holds of every number below n
abbrev pub below : ℕ → (ℕ → Bool) → Bool
below zero f = true
below (suc n) f = f n && below n f

pub below_at : (n : ℕ) (f : ℕ → Bool) → below n f ≡ true → (k : ℕ) → k < n → f k ≡ true
below_at zero f e k h = absurd (omega arith)
below_at (suc n) f e k h = go (leb n k) refl (below_at n f (and_r (f n) (below n f) e) k)
  where
    go : (t : Bool) → leb n k ≡ t → (k < n → f k ≡ true) → f k ≡ true
    go true l r = let q : k ≡ n = omega (arith, leb-true n k l) in rw q (and_l (f n) (below n f) e)
    go false l r = r (leb-false n k l)
