-- What calls or runs came to, by the answer. Assumes nothing.
use Rattle.std.specs.Prelude.{Ok, Err}
use mathlib.Core.Path.{◌≡◌, refl}
use mathlib.Core.Bool.{true, false}
use Prim.Native.Nat.{ℕ, ◌%◌}
use native.Mathlib.Omega.{arith}
use Rattle.meaning.specs.Answer.{Answer}
use Rattle.meaning.specs.Numbers.{seen}
use Rattle.lent.specs.Run.{is_refused}
use Rattle.bench.specs.Packed.{packed, reached_as}

pub reached_refused : (a : Answer) (n : ℕ) → is_refused a ≡ true → packed (seen a) ≡ reached_as a n
reached_refused (Ok tt) n h = let z : ◌≡◌ {A = ℕ} 0 1 = cc in absurd (omega arith)
reached_refused (Err r) n h = refl

pub reached_done : (a : Answer) (n : ℕ) → is_refused a ≡ false → n % 0x100000000 ≡ reached_as a n
reached_done (Ok tt) n h = refl
reached_done (Err r) n h = let z : ◌≡◌ {A = ℕ} 0 1 = cc in absurd (omega arith)
