-- The place of a counted character, walk by walk. Assumes nothing.
use mathlib.Core.Path.{◌≡◌, refl, sym, ap, ◌∙◌}
use mathlib.Core.Bool.{Bool, true, false, not, cond}
use mathlib.Core.List.{List, [], ◌∷◌}
use Prim.Native.Nat.{ℕ, zero, suc, pred, ◌+◌, ◌-◌, ◌≤◌, ◌<◌}
use native.Mathlib.Omega.{arith}
use lib.ListN.{length, drop, get_or, length-drop, length-take, drop_of_length-le}
use lib.Seq.{drop-cons, drop-drop}
use Rattle.encoding.specs.Utf8.{char_len}
use Rattle.white.specs.White.{is_white}
use Rattle.encoding.proofs.RowLaws.{char_fits}
use Rattle.text.specs.declared.chars.Char.{Char}
use Rattle.text.specs.declared.span.Span.{Span}
use Rattle.text.specs.Span.{text_of}
use Rattle.text.specs.Chars.{code, step_of, char_at}
use Rattle.text.proofs.CharLaws.{step_fits, step_pos}
use Rattle.width.specs.Count.{place_from, place_of}

pub place_le : (k n : ℕ) (s : List ℕ) → place_from k n s ≤ length s
unfolding place_from
place_le k n [] = omega arith
place_le (suc k) n (b ∷ bs) = omega (arith, place_le k n bs)
place_le zero zero (b ∷ bs) = go (is_white (code (char_len (b ∷ bs)) (b ∷ bs))) (place_le (pred (char_len (b ∷ bs))) zero bs)
  where
    go : (w : Bool) → place_from (pred (char_len (b ∷ bs))) zero bs ≤ length bs → cond w (suc (place_from (pred (char_len (b ∷ bs))) zero bs)) 0 ≤ suc (length bs)
    go true l = omega arith
    go false l = omega arith
place_le zero (suc n) (b ∷ bs) = omega (arith, place_le (pred (char_len (b ∷ bs))) (cond (is_white (code (char_len (b ∷ bs)) (b ∷ bs))) (suc n) n) bs)

-- ---- the next character

place_skip : (k n : ℕ) (s : List ℕ) → k ≤ length s → place_from k n s ≡ k + place_of n (drop k s)
unfolding place_from
place_skip zero n s h = omega arith
place_skip (suc k) n [] h = absurd (omega arith)
place_skip (suc k) n (b ∷ bs) h = omega (arith, place_skip k n bs (omega arith))

-- behind a character of m bytes, or of one where no sequence begins
behind : (t : List ℕ) (i n m : ℕ) → i < length t → i + m ≤ length t → suc (place_from (pred m) n (drop (suc i) t)) ≡ step_of m + place_of n (drop (i + step_of m) t)
behind t i n zero h l = let z : i + 1 ≡ suc i = omega arith in rw z (omega arith)
behind t i n (suc m) h l =
    let z : suc i + m ≡ i + suc m = omega arith in
    let s : place_from m n (drop (suc i) t) ≡ m + place_of n (drop m (drop (suc i) t)) = place_skip m n (drop (suc i) t) (omega (arith, length-drop (suc i) t)) in
    let d : drop m (drop (suc i) t) ≡ drop (i + suc m) t = drop-drop m (suc i) t ∙ rw z in
    rw (s, d) (omega arith)

-- ---- a walk to it

-- from place i on, where `left` are to be passed, it is found where it is from the beginning on
pub record Seeking (t : List ℕ) (n i left : ℕ) : Type 0 where
  pub within : i ≤ length t
  pub whole : i + place_of left (drop i t) ≡ place_of n t

pub seek_starts : (t : List ℕ) (n : ℕ) → Seeking t n 0 n
seek_starts t n = record { within = omega arith; whole = omega arith }

pub seek_end : {t : List ℕ} {n i left : ℕ} → Seeking t n i left → length t ≤ i → i ≡ place_of n t
unfolding place_from
seek_end {t} {n} {i} {left} s h = let z : place_of left (drop i t) ≡ 0 = rw (drop_of_length-le t h) refl in omega (arith, s.whole)

module _ {t : List ℕ} {n i left : ℕ} (s : Seeking t n i left) (h : i < length t) {k : Char} {w : Bool} (e : k ≡ char_at (drop i t)) (f : w ≡ is_white k.code) where
  is_not : (w b : Bool) → not w ≡ b → w ≡ not b
  is_not true b g = rw (← g)
  is_not false b g = rw (← g)

  white_is : {b : Bool} → w ≡ b → is_white (code (char_len (get_or t i 0 ∷ drop (suc i) t)) (get_or t i 0 ∷ drop (suc i) t)) ≡ b
  white_is g = rw (drop-cons t i 0 h) at (ap (λ (c : Char). is_white c.code) (sym e) ∙ sym f ∙ g)

  pub seek_here : not w ≡ true → left ≡ 0 → i ≡ place_of n t
  unfolding place_from
  seek_here g z = let q : place_of left (drop i t) ≡ 0 = rw (z, drop-cons t i 0 h, white_is (is_not w true g)) refl in omega (arith, s.whole)

  next : (m : ℕ) → place_of left (drop i t) ≡ suc (place_from (pred (char_len (drop i t))) m (drop (suc i) t)) → Seeking t n (i + k.len) m
  next m q =
      let b = behind t i m (char_len (drop i t)) h (char_fits t i h) in
      rw e (record { within = step_fits t i h; whole = omega (arith, s.whole) })

  pub seek_white : not w ≡ false → Seeking t n (i + k.len) left
  unfolding place_from
  seek_white g = next left (go left)
    where
      go : (m : ℕ) → place_of m (drop i t) ≡ suc (place_from (pred (char_len (drop i t))) m (drop (suc i) t))
      go zero = rw (drop-cons t i 0 h, white_is (is_not w false g)) refl
      go (suc m) = rw (drop-cons t i 0 h, white_is (is_not w false g)) refl

  pub seek_dark : not w ≡ true → (left ≡ 0 → ⊥) → Seeking t n (i + k.len) (left - 1)
  unfolding place_from
  seek_dark g z = next (left - 1) (go left z)
    where
      go : (m : ℕ) → (m ≡ 0 → ⊥) → place_of m (drop i t) ≡ suc (place_from (pred (char_len (drop i t))) (m - 1) (drop (suc i) t))
      go zero z = absurd (z refl)
      go (suc m) z = let p : suc m - 1 ≡ m = omega arith in rw (p, drop-cons t i 0 h, white_is (is_not w true g)) refl

  -- and no place past the end is asked for
  pub seek_on : i < i + k.len
  seek_on = rw e (omega (arith, step_pos (char_len (drop i t))))

  pub seek_within : i + k.len ≤ length t
  seek_within = rw e (step_fits t i h)

-- ---- in a source

-- the place lies in the span
pub place_inside : (src : List ℕ) (a : Span) (n : ℕ) {text : List ℕ} {p : ℕ} → text ≡ text_of src a → p ≡ place_of n text → p ≤ a.end.0 - a.start.0
place_inside src a n e f = rw (f, e) (omega (arith, place_le 0 n (text_of src a), length-take (a.end.0 - a.start.0) (drop a.start.0 src)))
