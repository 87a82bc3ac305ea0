-- The check of a text, run by run: what is passed changes nothing of what is found. Assumes nothing.
use mathlib.Core.Path.{◌≡◌, refl, sym, ap, ◌∙◌}
use mathlib.Core.Bool.{Bool, true, false, ◌&&◌}
use mathlib.Core.List.{List, [], ◌∷◌}
use Prim.Native.Nat.{ℕ, zero, suc, pred, ◌+◌, ◌-◌, ◌≤◌, ◌<◌, zero-le}
use native.Mathlib.Nat.{add-zero, add-suc, suc-add}
use native.Mathlib.Numerals.{add-one}
use native.Mathlib.Omega.{arith}
use lib.Dec.{ltb}
use lib.ListN.{length, take, drop, get_or, length-drop, drop_of_length-le}
use lib.Bits.{bit_or, or_lt, or_add_and, and_le_l, and_le_r}
use lib.Seq.{drop-cons, drop-drop}
use borrow.Author.Tests.{le-leb, ltb-true, ltb-false, lt-ltb, le-ltb}
use Rattle.encoding.specs.Utf8.{Well, Ill, table, all_in, len_by, char_len, at_lead, formed_from, all_plain}
use Rattle.encoding.specs.Walk.{Past}
use Rattle.white.proofs.Bools.{and_l, and_r, and_assoc, and_true}
use Rattle.encoding.proofs.RowLaws.{char_fits, char_one}

-- ---- the first ill-formed place

pub formed_skip : (k p : ℕ) (s : List ℕ) → formed_from k p s ≡ formed_from 0 (p + k) (drop k s)
unfolding formed_from
formed_skip zero p s = rw add-zero
formed_skip (suc k) p [] = refl
formed_skip (suc k) p (b ∷ bs) = formed_skip k (suc p) bs ∙ rw (suc-add, add-suc)

pub formed_none : (s : List ℕ) (i : ℕ) → length s ≤ i → formed_from 0 i (drop i s) ≡ Well
unfolding formed_from
formed_none s i h = rw (drop_of_length-le s h)

pub ill_here : (s : List ℕ) (i : ℕ) → i < length s → char_len (drop i s) ≡ 0 → formed_from 0 i (drop i s) ≡ Ill i
unfolding formed_from
ill_here s i h e = rw (drop-cons s i 0 h) (ap (λ (n : ℕ). at_lead n i (formed_from (pred n) (suc i) (drop (suc i) s))) (rw (drop-cons s i 0 h) at e))

pub formed_next : (s : List ℕ) (i n : ℕ) → i < length s → char_len (drop i s) ≡ n → (n ≡ 0 → ⊥) → formed_from 0 i (drop i s) ≡ formed_from 0 (i + n) (drop (i + n) s)
unfolding formed_from
formed_next s i zero h e ne = absurd (ne refl)
formed_next s i (suc n) h e ne =
    rw (drop-cons s i 0 h) (go (rw (drop-cons s i 0 h) at e) ∙ formed_skip n (suc i) (drop (suc i) s) ∙ rw (drop-drop, suc-add, add-suc))
  where
    go : char_len (get_or s i 0 ∷ drop (suc i) s) ≡ suc n → formed_from 0 i (get_or s i 0 ∷ drop (suc i) s) ≡ formed_from n (suc i) (drop (suc i) s)
    go q = ap (λ (n : ℕ). at_lead n i (formed_from (pred n) (suc i) (drop (suc i) s))) q

-- ---- plain bytes

or_plain : (a b : ℕ) → ltb (bit_or a b) 0x80 ≡ ltb a 0x80 && ltb b 0x80
or_plain a b = go (ltb a 0x80) (ltb b 0x80) refl refl
  where
    go : (t u : Bool) → ltb a 0x80 ≡ t → ltb b 0x80 ≡ u → ltb (bit_or a b) 0x80 ≡ t && u
    go true true p q = lt-ltb (bit_or a b) 0x80 (or_lt 7 a b (ltb-true a 0x80 p) (ltb-true b 0x80 q))
    go true false p q = le-ltb (bit_or a b) 0x80 (omega (arith, ltb-false b 0x80 q, or_add_and a b, and_le_l a b))
    go false u p q = le-ltb (bit_or a b) 0x80 (omega (arith, ltb-false a 0x80 p, or_add_and a b, and_le_r a b))

pub plain_next : (s : List ℕ) (k x : ℕ) → k < length s → ltb (bit_or x (get_or s k 0)) 0x80 && all_plain (drop (k + 1) s) ≡ ltb x 0x80 && all_plain (drop k s)
unfolding all_plain
plain_next s k x h = rw (drop-cons s k 0 h, or_plain, add-one) (and_assoc (ltb x 0x80) (ltb (get_or s k 0) 0x80) (all_plain (drop (suc k) s)))

pub plain_end : (s : List ℕ) (k x : ℕ) → length s ≤ k → ltb x 0x80 ≡ ltb x 0x80 && all_plain (drop k s)
unfolding all_plain
plain_end s k x h = rw (drop_of_length-le s h) (sym (and_true (ltb x 0x80)))

-- a plain byte is a character
pub plain_char : (b : ℕ) (bs : List ℕ) → b < 0x80 → char_len (b ∷ bs) ≡ 1
unfolding char_len len_by table all_in
plain_char b bs h = rw (le-leb b 0x7F (omega arith), le-leb 0 b zero-le)

plain_part : (n p : ℕ) (s : List ℕ) → n ≤ length s → all_plain (take n s) ≡ true → formed_from 0 p s ≡ formed_from 0 (p + n) (drop n s)
unfolding all_plain formed_from
plain_part zero p s h e = rw add-zero
plain_part (suc n) p [] h e = absurd (omega arith)
plain_part (suc n) p (b ∷ bs) h e =
    rw (plain_char b bs (ltb-true b 0x80 (and_l (ltb b 0x80) (all_plain (take n bs)) e)), add-suc, ← suc-add) (plain_part n (suc p) bs (omega arith) (and_r (ltb b 0x80) (all_plain (take n bs)) e))

-- ---- how far the check has come

pub past_none : (s : List ℕ) (i : ℕ) → i ≤ length s → Past s i i
past_none s i h = record { forth = omega arith; within = h; same = refl }

pub past_join : {s : List ℕ} {i j k : ℕ} → Past s i j → Past s j k → Past s i k
past_join p q = record { forth = omega (arith, p.forth, q.forth); within = q.within; same = q.same ∙ p.same }

pub past_char : {s : List ℕ} {from i n : ℕ} → Past s from i → i < length s → n ≡ char_len (drop i s) → (n ≡ 0 → ⊥) → Past s from (i + n)
past_char {s} {from} {i} {n} p h e nz = record {
  forth = omega (arith, p.forth);
  within = rw e (char_fits s i h);
  same = sym (formed_next s i n h (sym e) nz) ∙ p.same;
}

-- a block of n plain bytes
pub past_block : (n : ℕ) {s : List ℕ} {from i : ℕ} → Past s from i → i + n ≤ length s → true ≡ all_plain (take (i + n - i) (drop i s)) → Past s from (i + n)
past_block n {s} {from} {i} p h e =
    let z : i + n - i ≡ n = omega arith in
    record {
      forth = omega (arith, p.forth);
      within = h;
      same = sym (plain_part n i (drop i s) (omega (arith, length-drop i s)) (sym (rw z at e)) ∙ rw drop-drop) ∙ p.same;
    }

pub past_byte : {s : List ℕ} {from i : ℕ} → Past s from i → i < length s → get_or s i 0 < 0x80 → Past s from (i + 1)
past_byte {s} {from} {i} p h l = past_char {n = 1} p h (sym (char_one (record { here = h; low = zero-le; high = l }))) (λ z. omega arith)
