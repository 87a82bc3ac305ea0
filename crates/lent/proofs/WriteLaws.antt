-- Writes into a buffer: a byte over and over, a text, a gap with a text behind it. Assumes nothing.
use Rattle.text.proofs.Base.{◌≡◌, sym, ap, ◌∙◌, List, [], ◌∷◌, ◌++◌, ℕ, suc, ◌+◌, ◌<◌, ◌≤◌, arith}
use Rattle.text.proofs.Base.{length, get_or, take, drop}
use mathlib.Core.List.{append_assoc}
use native.Mathlib.Nat.{add-zero}
use native.Mathlib.Numerals.{add-one}
use borrow.Rule.Slice.PartMut.{mid_of, put_mid}
use lib.ListN.{set, replicate, length-replicate, length-append, length-take, length-drop, drop_of_length-le}
use lib.Seq.{sets, sets-eq, drop-cons, drop-drop}
use Rattle.meaning.specs.Pieces.{newline, space}
use Rattle.lent.specs.{declared.room.Gap.Gap, View.gap_bytes}

-- a part written anew is so many stores
pub put_sets : (l s : List ℕ) (at k : ℕ) → k ≡ length s → at + length s ≤ length l → put_mid at k l s ≡ sets l at s
put_sets l s at k e h = ap (λ (t : List ℕ). take at l ++ (s ++ t)) (drop-drop k at l ∙ ap (λ (n : ℕ). drop (at + n) l) e) ∙ sym (sets-eq s l at h ∙ append_assoc (take at l) s (drop (at + length s) l))

pub fill_sets : (l : List ℕ) (at k n b : ℕ) {s : List ℕ} → k ≡ n → at + n ≤ length l → s ≡ replicate (length (mid_of at k l)) b → put_mid at k l s ≡ sets l at (replicate n b)
fill_sets l at k n b e h q =
    let m : length (mid_of at k l) ≡ n = simp (length-take, length-drop) (omega arith) in
    rw (q, m) (put_sets l (replicate n b) at k (simp length-replicate e) (simp length-replicate h))

-- a text, byte by byte: the rest from one byte on is that byte and the rest behind it, and behind the last there is none
pub copy_turn : (l t : List ℕ) (at i : ℕ) → i < length t → sets l (at + i) (drop i t) ≡ sets (set l (at + i) (get_or t i 0)) (at + (i + 1)) (drop (i + 1) t)
copy_turn l t at i h = let q : at + suc i ≡ suc (at + i) = omega arith in rw (add-one i, q, drop-cons t i 0 h)

pub copy_end : (l t : List ℕ) (at i : ℕ) → length t ≤ i → sets l (at + i) (drop i t) ≡ l
copy_end l t at i h = rw (drop_of_length-le t h)

-- two stores, one behind the other
pub sets_append : (l s t : List ℕ) (i : ℕ) → sets l i (s ++ t) ≡ sets (sets l i s) (i + length s) t
sets_append l [] t i = rw add-zero
sets_append l (a ∷ s) t i = let q : i + suc (length s) ≡ suc i + length s = omega arith in rw q (sets_append (set l i a) s t (suc i))

-- ---- gaps

pub gap_length : (g : Gap) → length (gap_bytes g) ≡ g.lines + g.spaces
gap_length g = simp (length-append, length-replicate)

-- a gap and a text, as long as they are
pub laid_length : (g : Gap) (t : List ℕ) → length (gap_bytes g ++ t) ≡ g.lines + g.spaces + length t
laid_length g t = length-append (gap_bytes g) t ∙ ap (◌+ length t) (gap_length g)

pub lay_law : (b b1 b2 b3 t : List ℕ) (at : ℕ) (g : Gap) → b1 ≡ sets b at (replicate g.lines newline) → b2 ≡ sets b1 (at + g.lines) (replicate g.spaces space) → b3 ≡ sets b2 (at + g.lines + g.spaces) t
    → b3 ≡ sets b at (gap_bytes g ++ t)
lay_law b b1 b2 b3 t at g h1 h2 h3 =
    let e : at + g.lines + g.spaces ≡ at + (g.lines + g.spaces) = omega arith in
    rw (sets_append b (gap_bytes g) t at, sets_append b (replicate g.lines newline) (replicate g.spaces space) at, gap_length g, length-replicate) (h3 ∙ rw (h2, h1, e))
