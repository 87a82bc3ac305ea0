-- `kinds::class::class_at` meets its contract: the bytes of statements stand in a row, two of each class. Assumes nothing.
use Prim.Native.Nat.{ℕ, suc, ◌+◌, ◌<◌, ◌≤◌}
use mathlib.Core.Path.{◌≡◌, refl}
use mathlib.Core.Bool.{Bool, true, false}
use mathlib.Core.List.{[], ◌∷◌}
use native.Mathlib.Omega.{arith}
use Rattle.kinds.specs.Facts.{class_of, byte_of, facts_of}
use Rattle.kinds.specs.Kinds.{kind_of, kinds, find}
use Rattle.kinds.specs.declared.class.Class.{Class}
use Rattle.kinds.proofs.ByByte.{among, one_of_two, in_row, elsewhere}
use Rattle.kinds.proofs.class.class_at.Goals as goal

abbrev is_none : Class → Bool
is_none Class.None = true
is_none Class.Item = false
is_none Class.Const = false
is_none Class.Local = false
is_none Class.Other = false

none_is : (c : Class) → is_none c ≡ true → Class.None ≡ c
none_is Class.None h = refl
none_is Class.Item h = cc
none_is Class.Const h = cc
none_is Class.Local h = cc
none_is Class.Other h = cc

-- two bytes of one class
of_two : (from b : ℕ) (v : Class) → v ≡ class_of (kind_of from) → v ≡ class_of (kind_of (suc from)) → from ≤ b → b < from + 2 → v ≡ class_of (kind_of b)
of_two from b v e f l h = among (λ b. class_of (kind_of b)) v (from ∷ suc from ∷ []) b (rw (← e, ← f)) (one_of_two from b l h)

-- no byte of a statement
of_none : (b : ℕ) → ((0x90 ≤ b) × (b < 0x90 + 8) → ⊥) → Class.None ≡ class_of (kind_of b)
unfolding class_of byte_of facts_of kinds
of_none b h = none_is (class_of (kind_of b)) (elsewhere (λ k. is_none (class_of k)) refl b (λ o. h (in_row 0x90 8 b o)))

pub returns-in-144 : goal.returns-in-144
unfolding class_of facts_of byte_of kind_of kinds find
returns-in-144 c = of_two 0x90 _ Class.Item refl refl c.in-144.if-byte-lt144-own.false c.in-144.if-byte-lt146-own.true

pub returns-in-146 : goal.returns-in-146
unfolding class_of facts_of byte_of kind_of kinds find
returns-in-146 c = of_two 0x92 _ Class.Const refl refl c.in-146.if-byte-lt146-own.false c.in-146.if-byte-lt148-own.true

pub returns-in-148 : goal.returns-in-148
unfolding class_of facts_of byte_of kind_of kinds find
returns-in-148 c = of_two 0x94 _ Class.Local refl refl c.in-148.if-byte-lt148-own.false c.in-148.if-byte-lt150-own.true

pub returns-in-150 : goal.returns-in-150
unfolding class_of facts_of byte_of kind_of kinds find
returns-in-150 c = of_two 0x96 _ Class.Other refl refl c.in-150.if-byte-lt150-own.false c.in-150.if-byte-lt152-own.true

pub returns-in_default : goal.returns-in_default
unfolding class_of facts_of byte_of kind_of kinds find
returns-in_default c = of_none c.args.byte (λ h. omega (arith, h.0, c.in_default.if-byte-lt144-own.true))

pub returns-in_default-2 : goal.returns-in_default-2
unfolding class_of facts_of byte_of kind_of kinds find
returns-in_default-2 c = of_none c.args.byte (λ h. omega (arith, h.1, c.in_default.if-byte-lt152-own.false))
