-- A fact of kinds asked by the byte: what it is at some bytes, and at all others. Assumes nothing.
use Prim.Native.Nat.{ℕ, zero, suc, ◌+◌, ◌<◌, ◌≤◌}
use mathlib.Core.Path.{◌≡◌, refl, sym, ap, ◌∙◌}
use mathlib.Core.Bool.{Bool, true, false, not}
use mathlib.Core.Logic.{inl, inr}
use mathlib.Core.List.{List, [], ◌∷◌, map}
use lib.Dec.{eqb}
use types.Run.{OneOf}
use borrow.Author.Tests.{eqb-true, eqb-false}
use native.Mathlib.Omega.{arith}
use Rattle.kinds.specs.declared.Kind.{Kind}
use Rattle.kinds.specs.Facts.{byte_of}
use Rattle.kinds.specs.Kinds.{kind_of, kinds, find, pick}
use Rattle.kinds.proofs.Arms.{first, tail, keep}

-- it is v at each of these bytes, so it is v at one of them
pub among : {A : Type 0} (g : ℕ → A) (v : A) (bs : List ℕ) (n : ℕ) → map g bs ≡ map (λ (b : ℕ). v) bs → OneOf bs n → v ≡ g n
among g v [] n e h = absurd h
among g v (b ∷ []) n e h = sym (ap g h ∙ ap (first v) e)
among g v (b ∷ c ∷ bs) n e (inl h) = sym (ap g h ∙ ap (first v) e)
among g v (b ∷ c ∷ bs) n e (inr h) = among g v (c ∷ bs) n (ap tail e) h

-- ---- bytes in a row

abbrev pub row : ℕ → ℕ → List ℕ
row from zero = []
row from (suc n) = from ∷ row (suc from) n

pub in_row : (from n b : ℕ) → OneOf (row from n) b → (from ≤ b) × (b < from + n)
in_row from zero b h = absurd h
in_row from (suc zero) b h = (omega arith, omega arith)
in_row from (suc (suc n)) b (inl h) = (omega arith, omega arith)
in_row from (suc (suc n)) b (inr h) = let r = in_row (suc from) (suc n) b h in (omega (arith, r.0), omega (arith, r.1))

two_by : (from b : ℕ) (t : Bool) → eqb b from ≡ t → from ≤ b → b < from + 2 → OneOf (from ∷ suc from ∷ []) b
two_by from b true e l h = inl (eqb-true b from e)
two_by from b false e l h = let ne = eqb-false b from e in inr (omega (arith, ne))

pub one_of_two : (from b : ℕ) → from ≤ b → b < from + 2 → OneOf (from ∷ suc from ∷ []) b
one_of_two from b l h = two_by from b (eqb b from) refl l h

-- ---- all other bytes

-- the bytes of the kinds of which a test does not hold
abbrev pub failing : (Kind → Bool) → List Kind → List ℕ
failing test [] = []
failing test (k ∷ ks) = keep (not (test k)) (byte_of k) (failing test ks)

here : (b : ℕ) (bs : List ℕ) (n : ℕ) → n ≡ b → OneOf (b ∷ bs) n
here b [] n e = e
here b (c ∷ bs) n e = inl e

later : (b : ℕ) (bs : List ℕ) (n : ℕ) → OneOf bs n → OneOf (b ∷ bs) n
later b [] n h = absurd h
later b (c ∷ bs) n h = inr h

module _ (test : Kind → Bool) (known : test Kind.Unknown ≡ true) (n : ℕ) where
  at_kind : (k : Kind) (ks : List Kind) (a t : Bool) → eqb n (byte_of k) ≡ a → test k ≡ t → (OneOf (keep (not t) (byte_of k) (failing test ks)) n → ⊥)
      → ((OneOf (failing test ks) n → ⊥) → test (find ks n) ≡ true)
      → test (pick a k (find ks n)) ≡ true
  at_kind k ks true true e f h rest = f
  at_kind k ks true false e f h rest = absurd (h (here (byte_of k) (failing test ks) n (eqb-true n (byte_of k) e)))
  at_kind k ks false true e f h rest = rest h
  at_kind k ks false false e f h rest = rest (λ o. h (later (byte_of k) (failing test ks) n o))

  found : (ks : List Kind) → (OneOf (failing test ks) n → ⊥) → test (find ks n) ≡ true
  unfolding find
  found [] h = known
  found (k ∷ ks) h = at_kind k ks (eqb n (byte_of k)) (test k) refl refl h (found ks)

  pub elsewhere : (OneOf (failing test kinds) n → ⊥) → test (kind_of n) ≡ true
  unfolding kind_of
  elsewhere h = found kinds h
