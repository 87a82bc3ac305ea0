-- The walk back over the end of a text: which characters it meets, and that it trims. Assumes nothing.
use mathlib.Core.Path.{◌≡◌, refl, sym, ap, ◌∙◌}
use mathlib.Core.Logic.{⊎_elim}
use mathlib.Core.Bool.{Bool, true, false, cond, ◌&&◌, ◌||◌, false≢true}
use mathlib.Core.List.{List, [], ◌∷◌, ◌++◌}
use Prim.Native.Nat.{ℕ, zero, suc, ◌-◌, ◌≤◌, ◌<◌}
use native.Mathlib.Nat.{not-suc-le-zero}
use native.Mathlib.Omega.{arith}
use lib.Dec.{leb, eqb}
use lib.ListN.{length, take, drop, length-append, length-drop, take-append-drop}
use lib.Seq.{drop_at, take-take, length-take-le}
use borrow.Author.Tests.{leb-true, eq-eqb, eqb-true}
use Rattle.encoding.specs.Utf8.{Range, Row, in_range, table, all_in, len_by, char_len}
use Rattle.white.specs.White.{is_white}
use Rattle.text.specs.Chars.{code}
use Rattle.text.specs.Trim.{trim_from, trim, ends_white, white_end}
use Rattle.white.proofs.Bools.{and_l, and_r, or_cases}
use Rattle.white.proofs.WhiteLaws.{white_above}
use Rattle.encoding.proofs.RowLaws.{char_le}
use Rattle.text.proofs.CharLaws.{seq}
use Rattle.text.proofs.TrimLaws.{OneWhite, NoneEnds, trim_white, trim_none}

-- ---- a character of four bytes stands above White_Space

within : (r : Range) (lo hi b : ℕ) → leb lo r.lo && leb r.hi hi ≡ true → in_range r b ≡ true → (lo ≤ b) × (b ≤ hi)
within r lo hi b e h = (
  omega (arith, leb-true lo r.lo (and_l (leb lo r.lo) (leb r.hi hi) e), leb-true r.lo b (and_l (leb r.lo b) (leb b r.hi) h)),
  omega (arith, leb-true r.hi hi (and_r (leb lo r.lo) (leb r.hi hi) e), leb-true b r.hi (and_r (leb r.lo b) (leb b r.hi) h)),
)

-- a row of four bytes has a first byte over F0, or a second of 90 or above; none is longer
abbrev over : Range → List Range → Bool
over lead [] = true
over lead (r ∷ []) = true
over lead (r ∷ q ∷ []) = true
over lead (r ∷ q ∷ o ∷ []) = (leb 0xF1 lead.lo && leb lead.hi 0xF7) || (leb 0x90 r.lo && leb r.hi 0xBF)
over lead (r ∷ q ∷ o ∷ p ∷ rs) = false

over_code : (lead : Range) (rs : List Range) (b : ℕ) (bs : List ℕ) → over lead rs ≡ true → in_range lead b ≡ true → all_in rs bs ≡ true → 3 ≤ length rs → 0x3000 < code (suc (length rs)) (b ∷ bs)
unfolding code all_in
over_code lead [] b bs e p a h = absurd (omega arith)
over_code lead (r ∷ []) b bs e p a h = absurd (omega arith)
over_code lead (r ∷ q ∷ []) b bs e p a h = absurd (omega arith)
over_code lead (r ∷ q ∷ o ∷ []) b [] e p a h = absurd (false≢true a)
over_code lead (r ∷ q ∷ o ∷ []) b (x ∷ bs) e p a h = ⊎_elim (λ l. omega (arith, within lead 0xF1 0xF7 b l p)) (λ l. omega (arith, within r 0x90 0xBF x l (and_l (in_range r x) _ a))) (or_cases _ _ e)
over_code lead (r ∷ q ∷ o ∷ p₄ ∷ rs) b bs e p a h = absurd (false≢true e)

abbrev all_over : List Row → Bool
all_over [] = true
all_over (row ∷ rows) = over row.lead row.behind && all_over rows

over_by : (rows : List Row) (b : ℕ) (bs : List ℕ) → all_over rows ≡ true → 4 ≤ len_by rows b bs → 0x3000 < code (len_by rows b bs) (b ∷ bs)
unfolding len_by
over_by [] b bs o h = absurd (omega arith)
over_by (row ∷ rows) b bs o h = go (in_range row.lead b) (all_in row.behind bs) refl refl h (over_by rows b bs (and_r (over row.lead row.behind) (all_over rows) o))
  where
    Len : Bool → Bool → ℕ
    Len t u = cond t (cond u (suc (length row.behind)) 0) (len_by rows b bs)

    go : (t u : Bool) → in_range row.lead b ≡ t → all_in row.behind bs ≡ u → 4 ≤ Len t u → (4 ≤ len_by rows b bs → 0x3000 < code (len_by rows b bs) (b ∷ bs)) → 0x3000 < code (Len t u) (b ∷ bs)
    go true true p q h r = over_code row.lead row.behind b bs (and_l (over row.lead row.behind) (all_over rows) o) p q (omega arith)
    go true false p q h r = absurd (omega arith)
    go false u p q h r = r h

wide : (s : List ℕ) → 4 ≤ char_len s → 0x3000 < code (char_len s) s
unfolding char_len table
wide [] h = absurd (omega arith)
wide (b ∷ bs) h = over_by table b bs refl h

-- ---- the last n bytes

-- they are what stands behind a front of s
last_of_lem : (xs c s : List ℕ) → xs ++ c ≡ s → drop (length s - length c) s ≡ c
last_of_lem xs c s e = rw (← e) (drop_at xs c (length (xs ++ c) - length c) (omega (arith, length-append xs c)))

head_of : (c : List ℕ) (n : ℕ) → char_len c ≡ suc n → length c ≡ suc n → is_white (code (suc n) c) ≡ true → OneWhite c
head_of [] n e l w = absurd (omega arith)
head_of (y ∷ ys) n e l w = record { lead = y; rest = ys; is = refl; starts = (seq y ys (λ z. absurd (omega arith))).head; whole = e ∙ sym l; white = ap (λ (k : ℕ). is_white (code k (y ∷ ys))) l ∙ w }

pub ends_one : (n : ℕ) (s : List ℕ) → ends_white (suc n) s ≡ true → (suc n ≤ length s) × OneWhite (drop (length s - suc n) s)
unfolding ends_white
ends_one n s e =
    let c = drop (length s - suc n) s in
    let q = eqb-true (char_len c) (suc n) (and_l (eqb (char_len c) (suc n)) _ e) in
    let l = length-drop (length s - suc n) s in
    (omega (arith, q, char_le c, l), head_of c n q (omega (arith, q, char_le c, l)) (and_r (eqb (char_len c) (suc n)) _ e))

ends_dark : (xs c s : List ℕ) → xs ++ c ≡ s → char_len c ≡ length c → ends_white (length c) s ≡ false → is_white (code (length c) c) ≡ false
unfolding ends_white
ends_dark xs c s e q w = rw (last_of_lem xs c s e, eq-eqb (char_len c) (length c) q) at w

-- of the ends of one, two and three bytes none is White_Space, and none of four can be
no_end : (s : List ℕ) → ends_white 1 s ≡ false → ends_white 2 s ≡ false → ends_white 3 s ≡ false → NoneEnds s
no_end s p₁ p₂ p₃ xs c e h q = go (length c) refl
  where
    far : (n : ℕ) → length c ≡ suc (suc (suc (suc n))) → is_white (code (length c) c) ≡ false
    far n l = white_above (code (length c) c) (rw q at (wide c (omega arith)))

    go : (n : ℕ) → length c ≡ n → is_white (code (length c) c) ≡ false
    go zero l = absurd (omega arith)
    go (suc zero) l = ends_dark xs c s e q (rw l p₁)
    go (suc (suc zero)) l = ends_dark xs c s e q (rw l p₂)
    go (suc (suc (suc zero))) l = ends_dark xs c s e q (rw l p₃)
    go (suc (suc (suc (suc n)))) l = far n l

-- ---- one turn of the walk

pub data Ends (s : List ℕ) : ℕ → Type 0 where
  some : (n : ℕ) → suc n ≤ length s → OneWhite (drop (length s - suc n) s) → Ends s (suc n)
  none : NoneEnds s → Ends s 0

pub ends : (s : List ℕ) → Ends s (white_end s)
unfolding white_end
ends s = go (ends_white 1 s) (ends_white 2 s) (ends_white 3 s) refl refl refl
  where
    at : (n : ℕ) → ends_white (suc n) s ≡ true → Ends s (suc n)
    at n e = let o = ends_one n s e in some n o.0 o.1

    go : (t u v : Bool) → ends_white 1 s ≡ t → ends_white 2 s ≡ u → ends_white 3 s ≡ v → Ends s (cond t 1 (cond v 3 (cond u 2 0)))
    go true u v p q r = at 0 p
    go false u true p q r = at 2 r
    go false true false p q r = at 1 q
    go false false false p q r = none (no_end s p q r)

-- ---- the whole walk

-- what trimming leaves of a text: all of it, or what it leaves of a text without the White_Space character that ended it
pub data Trims : List ℕ → Type 0 where
  kept : {s : List ℕ} → trim s ≡ s → Trims s
  cut : {s : List ℕ} (xs c : List ℕ) → OneWhite c → s ≡ xs ++ c → Trims xs → Trims s

trims_by : (fuel : ℕ) (s : List ℕ) → length s ≤ fuel → Trims s
unfolding trim_from
trims_by zero [] h = kept refl
trims_by zero (b ∷ bs) h = absurd (not-suc-le-zero h)
trims_by (suc fuel) s h = go (ends s) (trims_by fuel)
  where
    go : {n : ℕ} → Ends s n → ((xs : List ℕ) → length xs ≤ fuel → Trims xs) → Trims s
    go (none e) again = kept (trim_none s e)
    go (some n l o) again =
        let i = length s - suc n in
        cut (take i s) (drop i s) o (sym (take-append-drop i s)) (again (take i s) (omega (arith, length-take-le i s (omega arith))))

pub trims : (s : List ℕ) → Trims s
trims s = trims_by (length s) s (omega arith)

trims_le : {s : List ℕ} → Trims s → length (trim s) ≤ length s
trims_le (kept e) = omega (arith, ap length e)
trims_le (cut {s} xs c o e t) = omega (arith, ap length (ap trim e ∙ trim_white xs c o), trims_le t, ap length e, length-append xs c)

pub trim_le : (s : List ℕ) → length (trim s) ≤ length s
trim_le s = trims_le (trims s)

-- ---- for the code: the first n bytes of a text

pub trim_turn : (t : List ℕ) (n w : ℕ) → n ≤ length t → w ≡ white_end (take n t) → (w ≡ 0 → ⊥) → (w ≤ n) × (trim (take n t) ≡ trim (take (n - w) t))
trim_turn t n w h e ne = go ne (rw (sym e) at (ends (take n t)))
  where
    l : length (take n t) ≡ n
    l = length-take-le n t h

    go : {w : ℕ} → (w ≡ 0 → ⊥) → Ends (take n t) w → (w ≤ n) × (trim (take n t) ≡ trim (take (n - w) t))
    go ne (none x) = absurd (ne refl)
    go ne (some w m o) =
        let i = length (take n t) - suc w in
        let front : take i (take n t) ≡ take (n - suc w) t = rw l (take-take (n - suc w) n t (omega arith)) in
        (omega (arith, m, l), ap trim (sym (take-append-drop i (take n t))) ∙ trim_white (take i (take n t)) (drop i (take n t)) o ∙ ap trim front)

pub trim_stop : (t : List ℕ) (n w : ℕ) → w ≡ white_end (take n t) → w ≡ 0 → trim (take n t) ≡ take n t
trim_stop t n w e z = go z (rw (sym e) at (ends (take n t)))
  where
    go : {w : ℕ} → w ≡ 0 → Ends (take n t) w → trim (take n t) ≡ take n t
    go z (none x) = trim_none (take n t) x
    go z (some w m o) = absurd (omega arith)

pub trim_empty : (t : List ℕ) (n : ℕ) → n ≤ 0 → trim (take n t) ≡ []
unfolding trim_from
trim_empty t n h = let z : n ≡ 0 = omega arith in rw z
