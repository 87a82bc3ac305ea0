-- What callers may rely on: White_Space among the bytes of ASCII, and where it ends. Assumes nothing.
use mathlib.Core.Path.{◌≡◌, refl, sym}
use mathlib.Core.Logic.{⊎_elim}
use mathlib.Core.Bool.{false, cond, ◌&&◌, ◌||◌}
use Prim.Native.Nat.{ℕ, ◌<◌}
use native.Mathlib.Omega.{arith}
use lib.Dec.{leb, ltb, eqb}
use borrow.Author.Tests.{lt-ltb, le-ltb}
use Rattle.white.specs.White.{mem, whites, is_white, white_byte}
use Rattle.std.proofs.lemmas.Bool.{agree_below_at}
use Rattle.std.proofs.lemmas.Grind.{common_steps}
use Rattle.white.proofs.Bools.{le_or_lt}

-- none stands above U+3000
pub white_above : (c : ℕ) → 0x3000 < c → is_white c ≡ false
unfolding is_white mem whites
white_above c h = grind (arith, common_steps)

-- ---- below 80 hex: 20 and 09 to 0D, asked of all 128

white_plain : (b : ℕ) → b < 0x80 → eqb b 0x20 || (leb 0x09 b && leb b 0x0D) ≡ is_white b
unfolding is_white mem whites
white_plain b h = agree_below_at (λ k. eqb k 0x20 || (leb 0x09 k && leb k 0x0D)) is_white 0x80 b refl h

-- a plain byte is White_Space as a byte exactly if it is as a code point
pub white_byte_lem : (b : ℕ) → b < 0x80 → white_byte b ≡ is_white b
white_byte_lem b h = rw (lt-ltb b 0x80 h)

-- so at every code point the question can be asked by the test on a byte first
pub white_first : (c : ℕ) → is_white c ≡ cond (ltb c 0x80) (eqb c 0x20 || (leb 0x09 c && leb c 0x0D)) (is_white c)
white_first c = ⊎_elim (λ h. rw (le-ltb c 0x80 h)) (λ h. rw (lt-ltb c 0x80 h) (sym (white_plain c h))) (le_or_lt 0x80 c)
