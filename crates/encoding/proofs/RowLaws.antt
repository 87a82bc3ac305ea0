-- UTF-8's table, row by row: the length of the sequence at a place of a list. Assumes nothing.
use mathlib.Core.Path.{◌≡◌, refl, sym, ap, ap₂, ◌∙◌}
use mathlib.Core.Bool.{Bool, true, false, cond, ◌&&◌, false≢true}
use mathlib.Core.List.{List, [], ◌∷◌, ◌++◌}
use Prim.Native.Nat.{ℕ, zero, suc, pred, ◌+◌, ◌≤◌, ◌<◌, zero-le, suc-le-suc}
use native.Mathlib.Nat.{le_of_suc-le-suc}
use native.Mathlib.Numerals.{add-one}
use native.Mathlib.Omega.{arith}
use lib.Dec.{ltb, eqb}
use lib.ListN.{length, take, drop, get_or, length-drop, drop_of_length-le}
use lib.Seq.{drop-cons}
use borrow.Author.Tests.{eqb-true, lt-ltb, le-ltb}
use Rattle.encoding.specs.Utf8.{Range, Row, ◌⋯◌, cont, in_range, table, all_in, len_by, second, char_len}
use Rattle.encoding.specs.Walk.{ByteIn}
use Rattle.white.proofs.Bools.{and_l, and_r, and_assoc, and_true, below_at}

-- ---- ranges at a place

-- one range more: the byte at i, and the others behind it
pub all_cons : (r : Range) (rs : List Range) (s : List ℕ) (i : ℕ) → all_in (r ∷ rs) (drop i s) ≡ all_in (r ∷ []) (drop i s) && all_in rs (drop (i + 1) s)
unfolding all_in
all_cons r rs s i = rw add-one (go s i)
  where
    both : (a b : Bool) → a && b ≡ (a && true) && b
    both true b = refl
    both false b = refl

    go : (s : List ℕ) (i : ℕ) → all_in (r ∷ rs) (drop i s) ≡ all_in (r ∷ []) (drop i s) && all_in rs (drop (suc i) s)
    go [] zero = refl
    go [] (suc i) = refl
    go (x ∷ s) zero = both (in_range r x) (all_in rs s)
    go (x ∷ s) (suc i) = go s i

pub all_join : (r : Range) (rs : List Range) (s : List ℕ) (i : ℕ) (t u : Bool) → t ≡ all_in (r ∷ []) (drop i s) → u ≡ all_in rs (drop (i + 1) s) → t && u ≡ all_in (r ∷ rs) (drop i s)
all_join r rs s i t u p q = ap₂ ◌&&◌ p q ∙ sym (all_cons r rs s i)

pub all_two : (r q : Range) (s : List ℕ) (i : ℕ) (t u : Bool) → t ≡ all_in (r ∷ []) (drop (i + 1) s) → u ≡ all_in (q ∷ []) (drop (i + 2) s) → t && u ≡ all_in (r ∷ q ∷ []) (drop (i + 1) s)
all_two r q s i t u p e = let n : i + 1 + 1 ≡ i + 2 = omega arith in all_join r (q ∷ []) s (i + 1) t u p (rw n e)

pub all_three : (r q o : Range) (s : List ℕ) (i : ℕ) (t u : Bool) → t ≡ all_in (r ∷ q ∷ []) (drop (i + 1) s) → u ≡ all_in (o ∷ []) (drop (i + 3) s) → t && u ≡ all_in (r ∷ q ∷ o ∷ []) (drop (i + 1) s)
all_three r q o s i t u p e =
    let n : i + 3 ≡ i + 1 + 1 + 1 = omega arith in
    ap₂ ◌&&◌ (p ∙ all_cons r (q ∷ []) s (i + 1)) (rw n at e)
    ∙ and_assoc (all_in (r ∷ []) (drop (i + 1) s)) (all_in (q ∷ []) (drop (i + 1 + 1) s)) (all_in (o ∷ []) (drop (i + 1 + 1 + 1) s))
    ∙ all_join r (q ∷ o ∷ []) s (i + 1) (all_in (r ∷ []) (drop (i + 1) s)) _ refl (sym (all_cons q (o ∷ []) s (i + 1 + 1)))

pub all_one : (r : Range) (s : List ℕ) (i : ℕ) → i < length s → all_in (r ∷ []) (drop i s) ≡ in_range r (get_or s i 0)
unfolding all_in
all_one r [] i h = absurd (omega arith)
all_one r (x ∷ s) zero h = and_true (in_range r x)
all_one r (x ∷ s) (suc i) h = all_one r s i (omega arith)

pub all_none : (r : Range) (rs : List Range) (s : List ℕ) (i : ℕ) → length s ≤ i → all_in (r ∷ rs) (drop i s) ≡ false
unfolding all_in
all_none r rs s i h = rw (drop_of_length-le s h)

pub all_long : (rs : List Range) (bs : List ℕ) → all_in rs bs ≡ true → length rs ≤ length bs
unfolding all_in
all_long [] bs e = zero-le
all_long (r ∷ rs) [] e = absurd (false≢true e)
all_long (r ∷ rs) (b ∷ bs) e = suc-le-suc (all_long rs bs (and_r (in_range r b) _ e))

-- what stands further back makes no difference
pub all_take : (rs : List Range) (n : ℕ) (bs : List ℕ) → length rs ≤ n → all_in rs (take n bs) ≡ all_in rs bs
unfolding all_in
all_take [] n bs h = refl
all_take (r ∷ rs) zero bs h = absurd (omega arith)
all_take (r ∷ rs) (suc n) [] h = refl
all_take (r ∷ rs) (suc n) (b ∷ bs) h = ap (in_range r b &&◌) (all_take rs n bs (le_of_suc-le-suc h))

pub all_append : (rs : List Range) (bs cs : List ℕ) → all_in rs bs ≡ true → all_in rs (bs ++ cs) ≡ true
unfolding all_in
all_append [] bs cs e = refl
all_append (r ∷ rs) [] cs e = absurd (false≢true e)
all_append (r ∷ rs) (b ∷ bs) cs e = rw (and_l (in_range r b) (all_in rs bs) e) (all_append rs bs cs (and_r (in_range r b) (all_in rs bs) e))

-- ---- the row that a byte leads

pub data Tail : Type 0 where
  no_row : Tail
  tail : List Range → Tail

abbrev pub tail_of : ℕ → List Row → Tail
tail_of b [] = no_row
tail_of b (row ∷ rows) = cond (in_range row.lead b) (tail row.behind) (tail_of b rows)

abbrev pub len_tail : Tail → List ℕ → ℕ
len_tail no_row bs = 0
len_tail (tail rs) bs = cond (all_in rs bs) (suc (length rs)) 0

by_lead : (rows : List Row) (b : ℕ) (bs : List ℕ) → len_by rows b bs ≡ len_tail (tail_of b rows) bs
unfolding len_by
by_lead [] b bs = refl
by_lead (row ∷ rows) b bs = go (in_range row.lead b) (by_lead rows b bs)
  where
    go : (t : Bool) → len_by rows b bs ≡ len_tail (tail_of b rows) bs → cond t (cond (all_in row.behind bs) (suc (length row.behind)) 0) (len_by rows b bs) ≡ len_tail (cond t (tail row.behind) (tail_of b rows)) bs
    go true e = refl
    go false e = e

-- the same by tests on the byte, in the order in which the code makes them
abbrev pub tail3 : ℕ → Tail
tail3 b = tail (second b ∷ cont ∷ [])

abbrev pub tail4 : ℕ → Tail
tail4 b = cond (ltb 0xF4 b) no_row (tail (second b ∷ cont ∷ cont ∷ []))

abbrev pub tail_by : ℕ → Tail
tail_by b = cond (ltb b 0x80) (tail []) (cond (ltb b 0xE0) (cond (ltb b 0xC2) no_row (tail (cont ∷ []))) (cond (ltb b 0xF0) (tail3 b) (tail4 b)))

-- ---- at each of the 256 bytes the two agree

abbrev same_ranges : List Range → List Range → Bool
same_ranges [] [] = true
same_ranges [] (y ∷ ys) = false
same_ranges (x ∷ xs) [] = false
same_ranges (x ∷ xs) (y ∷ ys) = (eqb x.lo y.lo && eqb x.hi y.hi) && same_ranges xs ys

abbrev same_tail : Tail → Tail → Bool
same_tail no_row no_row = true
same_tail no_row (tail ys) = false
same_tail (tail xs) no_row = false
same_tail (tail xs) (tail ys) = same_ranges xs ys

ranges_eq : (xs ys : List Range) → same_ranges xs ys ≡ true → xs ≡ ys
ranges_eq [] [] e = refl
ranges_eq [] (y ∷ ys) e = absurd (false≢true e)
ranges_eq (x ∷ xs) [] e = absurd (false≢true e)
ranges_eq (x ∷ xs) (y ∷ ys) e =
    let h = and_l (eqb x.lo y.lo && eqb x.hi y.hi) (same_ranges xs ys) e in
    ap₂ ◌∷◌ (ap₂ ◌⋯◌ (eqb-true _ _ (and_l (eqb x.lo y.lo) (eqb x.hi y.hi) h)) (eqb-true _ _ (and_r (eqb x.lo y.lo) (eqb x.hi y.hi) h))) (ranges_eq xs ys (and_r (eqb x.lo y.lo && eqb x.hi y.hi) (same_ranges xs ys) e))

tails_eq : (x y : Tail) → same_tail x y ≡ true → x ≡ y
tails_eq no_row no_row e = refl
tails_eq no_row (tail ys) e = absurd (false≢true e)
tails_eq (tail xs) no_row e = absurd (false≢true e)
tails_eq (tail xs) (tail ys) e = ap tail (ranges_eq xs ys e)

expected : (b : ℕ) → b < 256 → tail_of b table ≡ tail_by b
unfolding table
expected b h = tails_eq (tail_of b table) (tail_by b) (below_at 256 (λ k. same_tail (tail_of k table) (tail_by k)) refl b h)

char_at : (s : List ℕ) (i : ℕ) → i < length s → get_or s i 0 < 256 → char_len (drop i s) ≡ len_tail (tail_by (get_or s i 0)) (drop (i + 1) s)
unfolding char_len
char_at s i h g = rw (drop-cons s i 0 h, add-one) (by_lead table (get_or s i 0) (drop (suc i) s) ∙ ap (λ (t : Tail). len_tail t (drop (suc i) s)) (expected (get_or s i 0) g))

-- by the class of the first byte
pub char_one : {s : List ℕ} {i : ℕ} → ByteIn s i 0 0x80 → char_len (drop i s) ≡ 1
unfolding all_in
char_one {s} {i} b = rw (lt-ltb (get_or s i 0) 0x80 b.high) at (char_at s i b.here (omega arith))

pub char_two : {s : List ℕ} {i : ℕ} → ByteIn s i 0x80 0xE0 → char_len (drop i s) ≡ len_tail (cond (ltb (get_or s i 0) 0xC2) no_row (tail (cont ∷ []))) (drop (i + 1) s)
char_two {s} {i} b = rw (le-ltb (get_or s i 0) 0x80 b.low, lt-ltb (get_or s i 0) 0xE0 b.high) at (char_at s i b.here (omega arith))

pub char_three : {s : List ℕ} {i : ℕ} → ByteIn s i 0xE0 0xF0 → char_len (drop i s) ≡ len_tail (tail3 (get_or s i 0)) (drop (i + 1) s)
char_three {s} {i} b = rw (le-ltb (get_or s i 0) 0x80 (omega arith), le-ltb (get_or s i 0) 0xE0 b.low, lt-ltb (get_or s i 0) 0xF0 b.high) at (char_at s i b.here (omega arith))

pub char_four : {s : List ℕ} {i : ℕ} → ByteIn s i 0xF0 0x100 → char_len (drop i s) ≡ len_tail (tail4 (get_or s i 0)) (drop (i + 1) s)
char_four {s} {i} b = rw (le-ltb (get_or s i 0) 0x80 (omega arith), le-ltb (get_or s i 0) 0xE0 (omega arith), le-ltb (get_or s i 0) 0xF0 b.low) at (char_at s i b.here (omega arith))

pub char_none : (s : List ℕ) (i : ℕ) → length s ≤ i → char_len (drop i s) ≡ 0
unfolding char_len
char_none s i h = rw (drop_of_length-le s h)

-- ---- a sequence is no longer than what is left

len_le : (rows : List Row) (b : ℕ) (bs : List ℕ) → len_by rows b bs ≤ suc (length bs)
unfolding len_by
len_le [] b bs = zero-le
len_le (row ∷ rows) b bs = go (in_range row.lead b) (all_in row.behind bs) refl (len_le rows b bs)
  where
    go : (t u : Bool) → all_in row.behind bs ≡ u → len_by rows b bs ≤ suc (length bs) → cond t (cond u (suc (length row.behind)) 0) (len_by rows b bs) ≤ suc (length bs)
    go true true e h = suc-le-suc (all_long row.behind bs e)
    go true false e h = zero-le
    go false u e h = h

pub char_le : (s : List ℕ) → char_len s ≤ length s
unfolding char_len
char_le [] = zero-le
char_le (b ∷ bs) = len_le table b bs

pub char_fits : (s : List ℕ) (i : ℕ) → i < length s → i + char_len (drop i s) ≤ length s
char_fits s i h = omega (arith, char_le (drop i s), length-drop i s)

-- ---- and what stands behind it makes no difference

len_append : (rows : List Row) (b : ℕ) (bs cs : List ℕ) (n : ℕ) → len_by rows b bs ≡ suc n → len_by rows b (bs ++ cs) ≡ suc n
unfolding len_by
len_append [] b bs cs n e = e
len_append (row ∷ rows) b bs cs n e = go (in_range row.lead b) (all_in row.behind bs) refl e (len_append rows b bs cs n)
  where
    go : (t u : Bool) → all_in row.behind bs ≡ u → cond t (cond u (suc (length row.behind)) 0) (len_by rows b bs) ≡ suc n → (len_by rows b bs ≡ suc n → len_by rows b (bs ++ cs) ≡ suc n)
        → cond t (cond (all_in row.behind (bs ++ cs)) (suc (length row.behind)) 0) (len_by rows b (bs ++ cs)) ≡ suc n
    go true true q e r = rw (all_append row.behind bs cs q) e
    go true false q e r = let z : ◌≡◌ {A = ℕ} 0 (suc n) = e in absurd (omega arith)
    go false u q e r = r e

pub char_append : (b : ℕ) (bs cs : List ℕ) → (char_len (b ∷ bs) ≡ 0 → ⊥) → char_len (b ∷ (bs ++ cs)) ≡ char_len (b ∷ bs)
unfolding char_len
char_append b bs cs ne = go (len_by table b bs) refl ne
  where
    go : (n : ℕ) → len_by table b bs ≡ n → (n ≡ 0 → ⊥) → len_by table b (bs ++ cs) ≡ n
    go zero e ne = absurd (ne refl)
    go (suc n) e ne = len_append table b bs cs n e

len_take : (rows : List Row) (b p : ℕ) (bs : List ℕ) → pred (len_by rows b bs) ≤ p → (len_by rows b bs ≡ 0 → ⊥) → len_by rows b (take p bs) ≡ len_by rows b bs
unfolding len_by
len_take [] b p bs h ne = refl
len_take (row ∷ rows) b p bs h ne = go (in_range row.lead b) (all_in row.behind bs) refl h ne (len_take rows b p bs)
  where
    go : (t u : Bool) → all_in row.behind bs ≡ u → pred (cond t (cond u (suc (length row.behind)) 0) (len_by rows b bs)) ≤ p → (cond t (cond u (suc (length row.behind)) 0) (len_by rows b bs) ≡ 0 → ⊥)
        → (pred (len_by rows b bs) ≤ p → (len_by rows b bs ≡ 0 → ⊥) → len_by rows b (take p bs) ≡ len_by rows b bs)
        → cond t (cond (all_in row.behind (take p bs)) (suc (length row.behind)) 0) (len_by rows b (take p bs)) ≡ cond t (cond u (suc (length row.behind)) 0) (len_by rows b bs)
    go true true q h ne r = rw (all_take row.behind p bs h, q)
    go true false q h ne r = absurd (ne refl)
    go false u q h ne r = r h ne

pub char_take : (b p : ℕ) (bs : List ℕ) → pred (char_len (b ∷ bs)) ≤ p → (char_len (b ∷ bs) ≡ 0 → ⊥) → char_len (b ∷ take p bs) ≡ char_len (b ∷ bs)
unfolding char_len
char_take b p bs h ne = len_take table b p bs h ne
