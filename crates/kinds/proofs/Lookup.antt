-- Laws of `kind_of`: what a byte that is a kind's means, and one that is none's. And of the table: every kind has
-- a byte of its own, and a leaf's is below 80.
use Prim.Native.Nat.{ℕ}
use mathlib.Core.Path.{◌≡◌, refl, sym, ap}
use mathlib.Core.List.{List, [], ◌∷◌}
use borrow.Author.Tests.{ne_eqb}
use Rattle.kinds.specs.declared.Kind.{Kind}
use Rattle.kinds.specs.Facts.{facts_of, byte_of, leaf_of}
use Rattle.kinds.specs.Kinds.{kind_of, find, kinds, is_leaf}
use Rattle.kinds.specs.contracts.Kind.{enum}
use Rattle.kinds.proofs.Arms.{every}

pub hit : {b n : ℕ} → b ≡ n → kind_of n ≡ kind_of b
hit e = sym (ap kind_of e)

-- the byte is none of these kinds', in the shape in which a `_` hands it over: a fact for each, the last outermost
abbrev pub NoneOf : Type 0 → List Kind → ℕ → Type 0
NoneOf known [] b = known
NoneOf known (k ∷ ks) b = NoneOf (known × (b ≡ byte_of k → ⊥)) ks b

known_of : (known : Type 0) (ks : List Kind) (b : ℕ) → NoneOf known ks b → known
known_of known [] b h = h
known_of known (k ∷ ks) b h = (known_of (known × (b ≡ byte_of k → ⊥)) ks b h).0

not_found : (known : Type 0) (ks : List Kind) (b : ℕ) → NoneOf known ks b → Kind.Unknown ≡ find ks b
unfolding find
not_found known [] b h = refl
not_found known (k ∷ ks) b h =
    simp (ne_eqb b (byte_of k) (known_of (known × (b ≡ byte_of k → ⊥)) ks b h).1)
    (not_found (known × (b ≡ byte_of k → ⊥)) ks b h)

pub miss : (b : ℕ) → NoneOf (Unit {0}) kinds b → Kind.Unknown ≡ kind_of b
unfolding kind_of
miss b h = not_found (Unit {0}) kinds b h

-- no kind is without a byte, and no two have the same
pub own_byte : (k : Kind) → kind_of (byte_of k) ≡ k
unfolding kind_of kinds find byte_of facts_of
own_byte = every enum tt Kind.Unknown (λ k. kind_of (byte_of k)) (λ k. k) refl refl

pub leaf_byte : (k : Kind) → leaf_of k ≡ is_leaf (byte_of k)
unfolding leaf_of byte_of facts_of
leaf_byte = every enum tt Kind.Unknown leaf_of (λ k. is_leaf (byte_of k)) refl refl
