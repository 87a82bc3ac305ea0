-- Trimming from the end: a White_Space character there goes, and where none is nothing goes. Assumes nothing.
use mathlib.Core.Path.{◌≡◌, refl, sym, ap, ◌∙◌}
use mathlib.Core.Logic.{⊎_elim}
use mathlib.Core.Bool.{Bool, true, false, ◌&&◌, false≢true}
use mathlib.Core.List.{List, [], ◌∷◌, ◌++◌}
use Prim.Native.Nat.{ℕ, zero, suc, pred, ◌≤◌, ◌<◌, zero-le}
use native.Mathlib.Nat.{le_of_suc-le-suc, not-suc-le-zero}
use native.Mathlib.Omega.{arith}
use lib.Dec.{ltb}
use lib.ListN.{length}
use lib.Seq.{take-append_seam}
use borrow.Author.Tests.{lt-ltb}
use Rattle.encoding.specs.Utf8.{cont, in_range, char_len}
use Rattle.white.specs.White.{is_white}
use Rattle.text.specs.Chars.{code}
use Rattle.text.specs.Trim.{white_at, trim_at, trim_from, trim}
use Rattle.white.proofs.Bools.{and_l, and_r, le_or_lt}
use Rattle.encoding.proofs.RowLaws.{char_le, char_append, char_take}
use Rattle.text.proofs.CharLaws.{conts, seq, code_append}
use Rattle.text.proofs.FormedLaws.{behind_le}

-- ---- a byte that goes on no sequence ends the one before it

conts_seam : (n : ℕ) (xs : List ℕ) (y : ℕ) (ys : List ℕ) → conts n (xs ++ y ∷ ys) ≡ true → length xs < n → in_range cont y ≡ true
conts_seam zero xs y ys e h = absurd (not-suc-le-zero h)
conts_seam (suc n) [] y ys e h = and_l (in_range cont y) (conts n ys) e
conts_seam (suc n) (x ∷ xs) y ys e h = conts_seam n xs y ys (and_r (in_range cont x) (conts n (xs ++ y ∷ ys)) e) (le_of_suc-le-suc h)

char_seam : (x : ℕ) (xs : List ℕ) (y : ℕ) (ys : List ℕ) → in_range cont y ≡ false → char_len (x ∷ (xs ++ y ∷ ys)) ≡ char_len (x ∷ xs)
char_seam x xs y ys b = go (char_len (x ∷ xs)) (char_len (x ∷ (xs ++ y ∷ ys))) refl refl
  where
    inside : (n : ℕ) → char_len (x ∷ (xs ++ y ∷ ys)) ≡ suc n → n ≤ length xs → char_len (x ∷ (xs ++ y ∷ ys)) ≡ char_len (x ∷ xs)
    inside n e h = sym (char_take x (length xs) (xs ++ y ∷ ys) (rw e h) (λ z. absurd (omega arith))) ∙ ap (λ (l : List ℕ). char_len (x ∷ l)) (take-append_seam xs (y ∷ ys))

    across : (n : ℕ) → char_len (x ∷ (xs ++ y ∷ ys)) ≡ suc n → length xs < n → ⊥
    across n e h = false≢true (sym b ∙ conts_seam n xs y ys (rw e at (seq x (xs ++ y ∷ ys) (λ z. absurd (omega arith))).rest) h)

    go : (m n : ℕ) → char_len (x ∷ xs) ≡ m → char_len (x ∷ (xs ++ y ∷ ys)) ≡ n → char_len (x ∷ (xs ++ y ∷ ys)) ≡ char_len (x ∷ xs)
    go (suc m) n p q = char_append x xs (y ∷ ys) (λ z. absurd (omega arith))
    go zero zero p q = q ∙ sym p
    go zero (suc n) p q = ⊎_elim (λ h. inside n q h) (λ h. absurd (across n q h)) (le_or_lt n (length xs))

white_seam : (x : ℕ) (xs : List ℕ) (y : ℕ) (ys : List ℕ) → in_range cont y ≡ false → white_at (x ∷ (xs ++ y ∷ ys)) ≡ white_at (x ∷ xs)
white_seam x xs y ys b =
    rw (char_seam x xs y ys b) (ap (λ (c : ℕ). ltb 0 (char_len (x ∷ xs)) && is_white c) (code_append (char_len (x ∷ xs)) (x ∷ xs) (y ∷ ys) (omega arith) (char_le (x ∷ xs))))

-- ---- a White_Space character at the end goes

pub record OneWhite (c : List ℕ) : Type 0 where
  pub lead : ℕ
  pub rest : List ℕ
  pub is : c ≡ lead ∷ rest
  pub starts : in_range cont lead ≡ false
  pub whole : char_len c ≡ length c
  pub white : is_white (code (length c) c) ≡ true

pub all_go : (bs : List ℕ) → trim_from true (length bs) bs ≡ []
unfolding trim_from
all_go [] = refl
all_go (b ∷ bs) = rw (all_go bs)

one_goes : (y : ℕ) (ys : List ℕ) → char_len (y ∷ ys) ≡ length (y ∷ ys) → is_white (code (length (y ∷ ys)) (y ∷ ys)) ≡ true → trim (y ∷ ys) ≡ []
unfolding trim_from
one_goes y ys e w = rw (e, lt-ltb 0 (suc (length ys)) (omega arith), w, all_go ys)

from_seam : (w : Bool) (k : ℕ) (xs : List ℕ) (y : ℕ) (ys : List ℕ) → k ≤ length xs → in_range cont y ≡ false → trim (y ∷ ys) ≡ []
    → trim_from w k (xs ++ y ∷ ys) ≡ trim_from w k xs
unfolding trim_from
from_seam w zero [] y ys h b e = e
from_seam w (suc k) [] y ys h b e = absurd (not-suc-le-zero h)
from_seam w (suc k) (x ∷ xs) y ys h b e = ap (trim_at w x) (from_seam w k xs y ys (le_of_suc-le-suc h) b e)
from_seam w zero (x ∷ xs) y ys h b e =
    rw (white_seam x xs y ys b, char_seam x xs y ys b) (ap (trim_at (white_at (x ∷ xs)) x) (from_seam (white_at (x ∷ xs)) (pred (char_len (x ∷ xs))) xs y ys (behind_le x xs) b e))

pub trim_white : (xs c : List ℕ) → OneWhite c → trim (xs ++ c) ≡ trim xs
trim_white xs c o =
    let gone = one_goes o.lead o.rest (rw o.is at o.whole) (rw o.is at o.white) in
    rw o.is (from_seam false 0 xs o.lead o.rest zero-le o.starts gone)

-- ---- where none ends the text, nothing goes

-- no end of the text is a White_Space character
abbrev pub NoneEnds : List ℕ → Type 0
NoneEnds s = (xs c : List ℕ) → xs ++ c ≡ s → 0 < length c → char_len c ≡ length c → is_white (code (length c) c) ≡ false

tail_ends : (b : ℕ) (bs : List ℕ) → NoneEnds (b ∷ bs) → NoneEnds bs
tail_ends b bs n xs c e = n (b ∷ xs) c (ap (b ∷◌) e)

stays_at : (w : Bool) (b : ℕ) (bs : List ℕ) → (w ≡ true → 0 < length bs) → trim_at w b bs ≡ b ∷ bs
stays_at true b [] h = absurd (not-suc-le-zero (h refl))
stays_at false b [] h = refl
stays_at w b (x ∷ xs) h = refl

-- a White_Space character that begins a text which none ends has something behind it
goes_on : (b : ℕ) (bs : List ℕ) → NoneEnds (b ∷ bs) → white_at (b ∷ bs) ≡ true → pred (char_len (b ∷ bs)) < length bs
goes_on b bs n e = go (char_len (b ∷ bs)) refl e
  where
    go : (m : ℕ) → char_len (b ∷ bs) ≡ m → ltb 0 m && is_white (code m (b ∷ bs)) ≡ true → pred m < length bs
    go zero q e = absurd (false≢true e)
    go (suc m) q e = ⊎_elim (λ h. absurd (last (omega (arith, h, char_le (b ∷ bs))))) (λ h. h) (le_or_lt (length bs) m)
      where
        last : suc m ≡ length (b ∷ bs) → ⊥
        last l = false≢true (sym (n [] (b ∷ bs) refl (omega arith) (q ∙ l)) ∙ ap (λ (k : ℕ). is_white (code k (b ∷ bs))) (sym l) ∙ and_r (ltb 0 (suc m)) _ e)

stays : (w : Bool) (k : ℕ) (s : List ℕ) → NoneEnds s → (w ≡ true → k < length s) → trim_from w k s ≡ s
unfolding trim_from
stays w k [] n h = refl
stays w (suc k) (b ∷ bs) n h = ap (trim_at w b) (stays w k bs (tail_ends b bs n) (λ e. le_of_suc-le-suc (h e))) ∙ stays_at w b bs (λ e. omega (arith, h e))
stays w zero (b ∷ bs) n h =
    let w' = white_at (b ∷ bs) in
    let k' = pred (char_len (b ∷ bs)) in
    ap (trim_at w' b) (stays w' k' bs (tail_ends b bs n) (goes_on b bs n)) ∙ stays_at w' b bs (λ e. omega (arith, goes_on b bs n e))

pub trim_none : (s : List ℕ) → NoneEnds s → trim s ≡ s
trim_none s n = stays false 0 s n (λ e. absurd (false≢true e))
