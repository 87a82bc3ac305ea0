-- Laws of a whole layout: when record 0 is a script's body. Assumes nothing.
use Rattle.steps.proofs.Rules.{◌≡◌, refl, Bool, true, false, List, ℕ, arith, eqb, ne_eqb, length, Record, Kind, byte_of, node_of}
use mathlib.Core.Bool.{◌&&◌}
use borrow.Author.Tests.{le-leb, lt-leb}
use lib.Dec.{leb}
use Rattle.text.proofs.Base.{eq-eqb}
use Rattle.tree.specs.Cursor.{behind}
use Rattle.rules.specs.Whole.{is_script}

never : (t u : Bool) → false ≡ (t && false && u)
never true true = refl
never true false = refl
never false true = refl
never false false = refl

module _ (rs : List Record) where
  pub none_there : {n : ℕ} → n ≡ length rs → n ≡ 0 → false ≡ is_script rs
  unfolding is_script
  none_there e z = let h : leb 1 (length rs) ≡ false = lt-leb 1 (length rs) (omega arith) in rw h

  pub no_body : {kind : ℕ} → kind ≡ (node_of rs 0).kind → (kind ≡ byte_of Kind.BlockBody → ⊥) → false ≡ is_script rs
  unfolding is_script
  no_body k b = rw (← k, ne_eqb _ _ b) (never (leb 1 (length rs)) (eqb (behind rs 0) (length rs)))

  pub all_held : {n kind e m : ℕ} → n ≡ length rs → (n ≡ 0 → ⊥) → kind ≡ (node_of rs 0).kind → kind ≡ byte_of Kind.BlockBody → e ≡ behind rs 0 → m ≡ length rs → eqb e m ≡ is_script rs
  unfolding is_script
  all_held q z k b f g = let h : leb 1 (length rs) ≡ true = le-leb 1 (length rs) (omega (arith, z)) in rw (h, ← k, eq-eqb _ _ b, f, g)
