-- The place of a counted character, in words: it counts, and of the text from there on all count that count at all, but for the n before it.
-- Assumes nothing.
use Rattle.text.proofs.Base.{◌≡◌, refl, Bool, true, false, cond, List, [], ◌∷◌, ℕ, zero, suc, ◌+◌, ◌<◌, arith, drop}
use Prim.Native.Nat.{pred}
use Rattle.encoding.specs.Utf8.{char_len}
use Rattle.white.specs.White.{is_white}
use Rattle.text.specs.Chars.{code, chars_from, chars}
use Rattle.width.specs.Count.{dark, place_from}

-- the character that a text begins with
abbrev pub first_of : List ℕ → ℕ
first_of s = code (char_len s) s

pub record Counts (k n : ℕ) (s : List ℕ) : Type 0 where
  pub before : dark (chars_from k s) ≡ n + dark (chars (drop (place_from k n s) s))
  pub itself : is_white (first_of (drop (place_from k n s) s)) ≡ false

pub place_counts : (k n : ℕ) (s : List ℕ) → n < dark (chars_from k s) → Counts k n s
unfolding chars_from dark place_from
place_counts k n [] h = absurd (omega arith)
place_counts (suc k) n (b ∷ bs) h = let g = place_counts k n bs h in record { before = g.before; itself = g.itself }
place_counts zero zero (b ∷ bs) h = go (place_counts (pred (char_len (b ∷ bs))) 0 bs) (is_white (first_of (b ∷ bs))) refl h
  where
    rest : ℕ
    rest = dark (chars_from (pred (char_len (b ∷ bs))) bs)

    go : (0 < rest → Counts (pred (char_len (b ∷ bs))) 0 bs) → (w : Bool) → is_white (first_of (b ∷ bs)) ≡ w → 0 < cond w rest (suc rest) → Counts zero zero (b ∷ bs)
    go f true e h = let g = f h in record { before = rw e (omega (arith, g.before)); itself = rw e g.itself }
    go f false e h = record { before = rw (e, e) (omega arith); itself = rw e e }
place_counts zero (suc n) (b ∷ bs) h = go (place_counts (pred (char_len (b ∷ bs))) (suc n) bs) (place_counts (pred (char_len (b ∷ bs))) n bs) (is_white (first_of (b ∷ bs))) refl h
  where
    rest : ℕ
    rest = dark (chars_from (pred (char_len (b ∷ bs))) bs)

    go : (suc n < rest → Counts (pred (char_len (b ∷ bs))) (suc n) bs) → (n < rest → Counts (pred (char_len (b ∷ bs))) n bs) → (w : Bool) → is_white (first_of (b ∷ bs)) ≡ w → suc n < cond w rest (suc rest) → Counts zero (suc n) (b ∷ bs)
    go f g true e h = let i = f h in record { before = rw e i.before; itself = rw e i.itself }
    go f g false e h = let i = g (omega arith) in record { before = rw e (omega (arith, i.before)); itself = rw e i.itself }
