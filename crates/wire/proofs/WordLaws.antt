-- Words in bytes: read, written, and read back. Assumes nothing.
use mathlib.Core.Path.{◌≡◌, refl, sym, ap, ◌∙◌}
use mathlib.Core.Bool.{Bool, true, false}
use mathlib.Core.List.{List, [], ◌∷◌, ◌++◌, append_assoc, append-nil}
use Prim.Native.Nat.{ℕ, zero, suc, ◌+◌, ◌-◌, ◌*◌, ◌/◌, ◌%◌, ◌≤◌, ◌<◌}
use native.Mathlib.Nat.{add-zero}
use native.Mathlib.Numerals.{add-one}
use native.Mathlib.Omega.{arith}
use lib.ListN.{length, take, drop, get_or, length-append, length-drop, drop_of_length-le}
use lib.Seq.{get_or-drop, take_at, drop_at, drop-drop, take-suc, take_all, length-take-le}
use Rattle.std.specs.Int.{w32, from_bool, from_le_bytes, to_le_bytes}
use Rattle.tree.specs.Records.{four}
use Rattle.lent.specs.View.{flag_of}
use Rattle.wire.specs.Words.{word_at, word_bytes, in_bytes}
use Rattle.wire.specs.CodeState.{Wrote}

-- ---- one word

pub word_is : (s : List ℕ) (i : ℕ) {n : ℕ} → n ≡ from_le_bytes w32 (get_or s (i * 4) 0 ∷ get_or s (i * 4 + 1) 0 ∷ get_or s (i * 4 + 2) 0 ∷ get_or s (i * 4 + 3) 0 ∷ []) → n ≡ word_at s i
unfolding word_at four
word_is s i e = simp (get_or-drop, add-zero) (omega (arith, e))

-- the bytes from i * 4 on, as four are copied there
pub put_is : (l : List ℕ) (i w : ℕ) {v : List ℕ} → v ≡ to_le_bytes w32 w
    → take (i * 4) l ++ (v ++ drop (i * 4 + 4 - i * 4) (drop (i * 4) l)) ≡ take (i * 4) l ++ word_bytes w ++ drop (i * 4 + 4) l
unfolding word_bytes
put_is l i w e =
    let k : i * 4 + 4 - i * 4 ≡ 4 = omega arith in
    rw (k, drop-drop 4 (i * 4) l, e) (sym (append_assoc (take (i * 4) l) (to_le_bytes w32 w) (drop (i * 4 + 4) l)))

-- ---- words one behind the other

pub bytes_length : (ws : List ℕ) → length (in_bytes ws) ≡ length ws * 4
unfolding in_bytes word_bytes
bytes_length [] = refl
bytes_length (w ∷ ws) = let e : length (in_bytes ws) ≡ length ws * 4 = bytes_length ws in omega arith

pub bytes_append : (ws vs : List ℕ) → in_bytes (ws ++ vs) ≡ in_bytes ws ++ in_bytes vs
unfolding in_bytes
bytes_append [] vs = refl
bytes_append (w ∷ ws) vs = ap (word_bytes w ++◌) (bytes_append ws vs) ∙ sym (append_assoc (word_bytes w) (in_bytes ws) (in_bytes vs))

bytes_one : (w : ℕ) → in_bytes (w ∷ []) ≡ word_bytes w
unfolding in_bytes word_bytes
bytes_one w = refl

-- the first i words are written over a slice that was `was`
pub record Writing (words was to : List ℕ) (i : ℕ) : Type 0 where
  pub long : length to ≡ length was
  pub room : length was ≡ length words * 4
  pub few : i ≤ length words
  pub same : to ≡ in_bytes (take i words) ++ drop (i * 4) was

pub write_start : {words was : List ℕ} → length was ≡ length words * 4 → Writing words was was 0
unfolding in_bytes
write_start e = record { long = refl; room = e; few = omega arith; same = refl }

pub write_turn : {words was to to' : List ℕ} {i w : ℕ} → Writing words was to i → i < length words → w ≡ get_or words i 0 → length to' ≡ length to
    → to' ≡ take (i * 4) to ++ word_bytes w ++ drop (i * 4 + 4) to → Writing words was to' (i + 1)
write_turn {words} {was} {to} {to'} {i} {w} h l ew el e =
    let n : length (in_bytes (take i words)) ≡ i * 4 = bytes_length (take i words) ∙ ap (◌* 4) (length-take-le i words h.few) in
    let t : take (i * 4) to ≡ in_bytes (take i words) = rw h.same (take_at (in_bytes (take i words)) (drop (i * 4) was) (i * 4) n) in
    let u : drop (i * 4) to ≡ drop (i * 4) was = rw h.same (drop_at (in_bytes (take i words)) (drop (i * 4) was) (i * 4) n) in
    let k : (i + 1) * 4 ≡ i * 4 + 4 = omega arith in
    let d : drop (i * 4 + 4) to ≡ drop ((i + 1) * 4) was = sym (drop-drop 4 (i * 4) to) ∙ ap (drop 4) u ∙ drop-drop 4 (i * 4) was ∙ ap (λ (m : ℕ). drop m was) (sym k) in
    let g : take (i + 1) words ≡ take i words ++ (w ∷ []) = ap (λ (m : ℕ). take m words) (add-one i) ∙ take-suc words i 0 l ∙ ap (λ (v : ℕ). take i words ++ (v ∷ [])) (sym ew) in
    let b : in_bytes (take (i + 1) words) ≡ in_bytes (take i words) ++ word_bytes w = ap in_bytes g ∙ bytes_append (take i words) (w ∷ []) ∙ ap (in_bytes (take i words) ++◌) (bytes_one w) in
    record {
      long = el ∙ h.long;
      room = h.room;
      few = omega arith;
      same = e ∙ rw (t, d) (ap (◌++ drop ((i + 1) * 4) was) (sym b));
    }

pub write_end : {words was to : List ℕ} {i : ℕ} → Writing words was to i → length words ≤ i → ((k : ℕ) → get_or words k 0 < 0x100000000) → Wrote words to
write_end {words} {was} {to} {i} h l f =
    let e : i ≡ length words = omega (arith, h.few) in
    let t : take i words ≡ words = take_all i words l in
    let d : drop (i * 4) was ≡ [] = drop_of_length-le was {i = i * 4} (omega (arith, h.room)) in
    record { bytes_are = h.same ∙ rw (t, d) (append-nil (in_bytes words)); fit = f }

-- ---- read back

word_first : (w : ℕ) (rest : List ℕ) → w < 0x100000000 → word_at (word_bytes w ++ rest) 0 ≡ w
unfolding word_at four word_bytes
word_first w rest h =
    let a : w / 0x100 ≡ w / 0x10000 * 0x100 + w / 0x100 % 0x100 = omega arith in
    let b : w / 0x10000 ≡ w / 0x1000000 * 0x100 + w / 0x10000 % 0x100 = omega arith in
    let c : w / 0x1000000 % 0x100 ≡ w / 0x1000000 = omega arith in
    omega arith

word_next : (w : ℕ) (rest : List ℕ) (i : ℕ) → word_at (word_bytes w ++ rest) (suc i) ≡ word_at rest i
unfolding word_at word_bytes
word_next w rest i = let e : suc i * 4 ≡ suc (suc (suc (suc (i * 4)))) = omega arith in rw e

pub word_back : (ws : List ℕ) (i : ℕ) → get_or ws i 0 < 0x100000000 → i < length ws → word_at (in_bytes ws) i ≡ get_or ws i 0
unfolding in_bytes
word_back [] i h l = absurd (omega arith)
word_back (w ∷ ws) zero h l = word_first w (in_bytes ws) h
word_back (w ∷ ws) (suc i) h l = word_next w (in_bytes ws) i ∙ word_back ws i h (omega arith)

-- ---- two parts of a slice, written one after the other

fit_both : (xs ys : List ℕ) → ((i : ℕ) → get_or xs i 0 < 0x100000000) → ((i : ℕ) → get_or ys i 0 < 0x100000000) → (i : ℕ) → get_or (xs ++ ys) i 0 < 0x100000000
fit_both [] ys f g i = g i
fit_both (x ∷ xs) ys f g zero = f 0
fit_both (x ∷ xs) ys f g (suc i) = fit_both xs ys (λ j. f (suc j)) g i

module _ (st y head queue : List ℕ) (size : length st ≡ 4128) (wy : Wrote head y) (eight : length head ≡ 8) (many : length queue ≡ 1024) where
  first_long : length y ≡ 32
  first_long = ap length wy.bytes_are ∙ bytes_length head ∙ ap (◌* 4) eight

  both_long : length (y ++ drop 32 st) ≡ 4128
  both_long = let l : length y ≡ 32 = first_long in length-append y (drop 32 st) ∙ omega (arith, length-drop 32 st)

  pub second_long : length (take (length (y ++ drop 32 st) - 32) (drop 32 (y ++ drop 32 st))) ≡ length queue * 4
  second_long =
      let b : length (y ++ drop 32 st) ≡ 4128 = both_long in
      length-take-le (length (y ++ drop 32 st) - 32) (drop 32 (y ++ drop 32 st)) (omega (arith, length-drop 32 (y ++ drop 32 st))) ∙ omega arith

  pub both_written : (z : List ℕ) → Wrote queue z → Wrote (head ++ queue) (take 32 (y ++ drop 32 st) ++ (z ++ drop (length (y ++ drop 32 st) - 32) (drop 32 (y ++ drop 32 st))))
  both_written z wz =
      let t : take 32 (y ++ drop 32 st) ≡ y = take_at y (drop 32 st) 32 first_long in
      let d : drop (length (y ++ drop 32 st) - 32) (drop 32 (y ++ drop 32 st)) ≡ [] =
      drop_of_length-le (drop 32 (y ++ drop 32 st)) {i = length (y ++ drop 32 st) - 32} (omega (arith, length-drop 32 (y ++ drop 32 st))) in
      record {
        bytes_are = rw (t, d, append-nil z, wy.bytes_are, wz.bytes_are) (sym (bytes_append head queue));
        fit = fit_both head queue wy.fit wz.fit;
      }

-- a flag's number is its word
flag_byte : (b : Bool) → from_bool b ≡ flag_of b
flag_byte false = refl
flag_byte true = refl

pub flags_in : {x y e z e' a b g : ℕ} (p q r : Bool) {queue bs : List ℕ} → x ≡ from_bool p → y ≡ from_bool q → e ≡ e' → z ≡ from_bool r
    → Wrote (a ∷ b ∷ x ∷ y ∷ e ∷ z ∷ g ∷ 0 ∷ queue) bs → Wrote (a ∷ b ∷ flag_of p ∷ flag_of q ∷ e' ∷ flag_of r ∷ g ∷ 0 ∷ queue) bs
flags_in p q r i j k l w = rw (i ∙ flag_byte p, j ∙ flag_byte q, k, l ∙ flag_byte r) at w
