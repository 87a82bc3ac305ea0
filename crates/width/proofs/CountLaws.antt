-- The count of characters outside White_Space, walk by walk. Assumes nothing.
use mathlib.Core.Path.{◌≡◌, refl, sym, ◌∙◌}
use mathlib.Core.Bool.{Bool, true, false, cond, ◌&&◌}
use mathlib.Core.List.{List, [], ◌∷◌}
use Prim.Native.Nat.{ℕ, zero, suc, ◌+◌, ◌-◌, ◌≤◌, ◌<◌}
use native.Mathlib.Nat.{min-eq_left, min-eq_right}
use native.Mathlib.Numerals.{add-one}
use native.Mathlib.Omega.{arith}
use mir.Val.{bool_byte}
use lib.Dec.{ltb}
use lib.ListN.{length, take, drop, get_or, drop_of_length-le}
use lib.Seq.{drop-cons}
use borrow.Author.Tests.{ltb-true}
use Rattle.text.specs.declared.chars.Char.{Char}
use Rattle.white.specs.White.{is_white, white_byte}
use Rattle.encoding.specs.Utf8.{char_len, all_plain}
use Rattle.text.specs.Chars.{chars_from, chars, char_at}
use Rattle.width.specs.Count.{dark, counted}
use Rattle.width.specs.Walk.{PlainBlock, Tallied}
use Rattle.white.proofs.Bools.{and_l, and_r}
use Rattle.white.proofs.WhiteLaws.{white_byte_lem}
use Rattle.text.proofs.CharLaws.{step_fits, step_pos, chars_next, chars_none, char_plain}

pub at_most_one : (w : Bool) → bool_byte w ≤ 1
at_most_one true = omega arith
at_most_one false = omega arith

-- ---- plain bytes

pub plain_at : (s : List ℕ) (k : ℕ) → all_plain s ≡ true → k < length s → get_or s k 0 < 0x80
unfolding all_plain
plain_at [] k e h = absurd (omega arith)
plain_at (b ∷ bs) zero e h = ltb-true b 0x80 (and_l (ltb b 0x80) (all_plain bs) e)
plain_at (b ∷ bs) (suc k) e h = plain_at bs k (and_r (ltb b 0x80) (all_plain bs) e) (omega arith)

one_more : (w : Bool) (m : ℕ) → cond w m (suc m) ≡ 1 - bool_byte w + m
one_more true m = omega arith
one_more false m = omega arith

-- one byte more; w: it is White_Space
pub dark_next : (s : List ℕ) (k : ℕ) (w : Bool) → k < length s → get_or s k 0 < 0x80 → w ≡ white_byte (get_or s k 0) → dark (drop k s) ≡ 1 - bool_byte w + dark (drop (k + 1) s)
unfolding dark
dark_next s k w h l e = rw (drop-cons s k 0 h, add-one, ← white_byte_lem (get_or s k 0) l, ← e) (one_more w (dark (drop (suc k) s)))

pub dark_end : (s : List ℕ) (k : ℕ) → length s ≤ k → dark (drop k s) ≡ 0
unfolding dark
dark_end s k h = rw (drop_of_length-le s h)

-- ---- walks

pub tally_none : (t : List ℕ) (i : ℕ) → i ≤ length t → Tallied t i i 0
tally_none t i h = record { few = omega arith; within = h; whole = omega arith }

pub tally_join : {t : List ℕ} {i j k n m : ℕ} → Tallied t i j n → Tallied t j k m → Tallied t i k (n + m)
tally_join p q = record { few = omega (arith, p.few, q.few); within = q.within; whole = omega (arith, p.whole, q.whole) }

tally_as : {t : List ℕ} {i j k n m : ℕ} → Tallied t i j n → j ≡ k → n ≡ m → Tallied t i k m
tally_as {t} p e f = record { few = omega (arith, p.few); within = omega (arith, p.within); whole = rw (← e, ← f) p.whole }

pub char_moves : (t : List ℕ) (i : ℕ) {k : Char} → k ≡ char_at (drop i t) → 0 < k.len
char_moves t i e = rw e (step_pos (char_len (drop i t)))

-- one character; w: it has White_Space
pub tally_char : {t : List ℕ} {i : ℕ} {k : Char} {w : Bool} → i < length t → k ≡ char_at (drop i t) → w ≡ is_white k.code → Tallied t i (i + k.len) (1 - bool_byte w)
unfolding dark
tally_char {t} {i} {k} {w} h e f = record {
  few = omega (arith, at_most_one w, char_moves t i e);
  within = rw e (step_fits t i h);
  whole = sym (rw (chars_next t i h, f, e) (one_more (is_white (char_at (drop i t)).code) (dark (chars_from 0 (drop (i + (char_at (drop i t)).len) t)))));
}

-- one character more, and what was passed behind it
pub tally_turn : {t : List ℕ} {i j n m : ℕ} {k : Char} {w : Bool} → Tallied t 0 i n → i < length t → k ≡ char_at (drop i t) → w ≡ is_white k.code → Tallied t (i + k.len) j m → Tallied t 0 j (n + (1 - bool_byte w) + m)
tally_turn p h e f q = tally_join (tally_join p (tally_char h e f)) q

-- one plain byte
pub tally_byte : {t : List ℕ} {i : ℕ} {w : Bool} → i < length t → get_or t i 0 < 0x80 → w ≡ white_byte (get_or t i 0) → Tallied t i (i + 1) (1 - bool_byte w)
tally_byte {t} {i} h l f = tally_char h (char_plain t i h l) (f ∙ white_byte_lem (get_or t i 0) l)

-- n plain bytes are n characters
plain_dark : (n : ℕ) (t : List ℕ) (i : ℕ) → i + n ≤ length t → all_plain (take n (drop i t)) ≡ true → Tallied t i (i + n) (dark (take n (drop i t)))
unfolding all_plain dark
plain_dark zero t i h e = tally_as (tally_none t i (omega arith)) (omega arith) refl
plain_dark (suc n) t i h e =
    let b = get_or t i 0 in
    let next = drop-cons t i 0 (omega arith) in
    let q : ltb b 0x80 && all_plain (take n (drop (suc i) t)) ≡ true = rw next at e in
    let plain = ltb-true b 0x80 (and_l (ltb b 0x80) _ q) in
    let here = tally_byte {t = t} {i = i} (omega arith) plain (sym (white_byte_lem b plain)) in
    let rest = plain_dark n t (i + 1) (omega arith) (rw add-one (and_r (ltb b 0x80) _ q)) in
    rw next (tally_as (tally_join here rest) (omega arith) (rw add-one (sym (one_more (is_white b) (dark (take n (drop (suc i) t)))))))

-- a block, as a slice of 32 bytes at i
pub tally_block : {t : List ℕ} {i n : ℕ} → PlainBlock t i → n ≡ dark (take (i + 32 - i) (drop i t)) → Tallied t i (i + 32) n
tally_block {t} {i} p e = let z : i + 32 - i ≡ 32 = omega arith in tally_as (plain_dark 32 t i p.within p.plain) refl (sym (rw z at e))

-- ---- the whole count

pub count_over : (limit : ℕ) {t : List ℕ} {n i : ℕ} → Tallied t 0 i n → limit + 1 ≤ n → limit + 1 ≡ counted limit t
unfolding counted
count_over limit {t} {n} {i} c l = let q : limit + 1 ≡ suc limit = omega arith in q ∙ sym (min-eq_left (omega (arith, c.whole)))

pub count_end : {t : List ℕ} {limit n i : ℕ} → Tallied t 0 i n → n ≤ limit → length t ≤ i → n ≡ counted limit t
unfolding counted dark
count_end {t} {limit} {n} {i} c l g =
    let z : dark (chars_from 0 (drop i t)) ≡ 0 = rw (chars_none t i g) in
    let m : n ≡ dark (chars t) = omega (arith, c.whole) in
    m ∙ sym (min-eq_right (omega arith))
