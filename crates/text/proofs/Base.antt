-- Names of the libraries that most proofs need, in one place. Assumes nothing.
pub use mathlib.Core.Path.{◌≡◌, refl, sym, ap, subst, ◌∙◌}
pub use mathlib.Core.Bool.{Bool, true, false, not, cond, ◌&&◌, ◌||◌}
pub use mathlib.Core.List.{List, [], ◌∷◌, ◌++◌}
pub use mathlib.Core.Logic.{◌⊎◌, inl, inr}
pub use Prim.Native.Nat.{ℕ, zero, suc, ◌+◌, ◌-◌, ◌*◌, ◌%◌, ◌≤◌, ◌<◌, min}
pub use native.Mathlib.Omega.{arith}
pub use lib.ListN.{length, take, drop, get_or}
pub use lib.Dec.{eqb, ltb, leb}
pub use borrow.Author.Tests.{lt-ltb, le-ltb, eq-eqb, ne_eqb, ltb-true, ltb-false}
pub use borrow.Author.Rules.{rules}
