-- The computed check is right, both ways: what it finds well-formed can be cut into the table's sequences, and what can be cut so it
-- finds well-formed; where it finds an ill-formed sequence, there stands the first one. Assumes nothing.
use mathlib.Core.Path.{◌≡◌, refl, sym, ap, ◌∙◌, subst}
use mathlib.Core.Logic.{◌⊎◌, inl, inr, ⊎_elim}
use mathlib.Core.Bool.{Bool, true, false, cond, ◌&&◌, ◌||◌, true≢false, false≢true}
use mathlib.Core.List.{List, [], ◌∷◌, ◌++◌}
use Prim.Native.Nat.{ℕ, zero, suc, pred, ◌+◌, ◌≤◌, ◌<◌}
use native.Mathlib.Nat.{not-suc-le-zero, suc-add}
use native.Mathlib.Omega.{arith}
use lib.Dec.{leb, eqb}
use lib.ListN.{length, take, drop, take-append-drop, length-drop}
use lib.Seq.{length-take-le, drop-append_seam, drop-drop, take-add}
use borrow.Author.Tests.{leb-true, lt-leb, eqb-true, eq-eqb}
use Rattle.std.specs.Prelude.{Ok, Err}
use Rattle.encoding.specs.Utf8.{Formed, Well, Ill, Range, Row, in_range, table, all_in, is_row, is_sequence, WellFormed, none, more, FirstIll, len_by, char_len, at_lead, formed_from, formed}
use Rattle.white.proofs.Bools.{and_l, and_r, or_cases}
use Rattle.encoding.proofs.RowLaws.{all_long, all_take, all_append, char_le}
use Rattle.encoding.proofs.WalkLaws.{formed_skip}

-- ---- a length that the table gives is that of a sequence

row_of : (rows : List Row) (b n : ℕ) (bs : List ℕ) → len_by rows b bs ≡ suc n → is_sequence rows (b ∷ take n bs) ≡ true
unfolding len_by is_sequence is_row
row_of [] b n bs e = let z : ◌≡◌ {A = ℕ} 0 (suc n) = e in absurd (omega arith)
row_of (row ∷ rows) b n bs e = go (in_range row.lead b) (all_in row.behind bs) refl e (row_of rows b n bs)
  where
    go : (t u : Bool) → all_in row.behind bs ≡ u → cond t (cond u (suc (length row.behind)) 0) (len_by rows b bs) ≡ suc n → (len_by rows b bs ≡ suc n → is_sequence rows (b ∷ take n bs) ≡ true)
        → (t && (all_in row.behind (take n bs) && eqb (length (take n bs)) (length row.behind))) || is_sequence rows (b ∷ take n bs) ≡ true
    go true true q e r =
        let m : n ≡ length row.behind = omega arith in
        let l = length-take-le n bs (omega (arith, all_long row.behind bs q)) in
        rw (all_take row.behind n bs (omega arith), q, eq-eqb (length (take n bs)) (length row.behind) (l ∙ m))
    go true false q e r = let z : ◌≡◌ {A = ℕ} 0 (suc n) = e in absurd (omega arith)
    go false u q e r = r e

-- ---- a sequence has the length that the table gives

-- the leads ascend, the first from m on
abbrev leads_ascend : ℕ → List Row → Bool
leads_ascend m [] = true
leads_ascend m (row ∷ rows) = leb m row.lead.lo && (leb row.lead.lo row.lead.hi && leads_ascend (suc row.lead.hi) rows)

record Ascends (m : ℕ) (row : Row) (rows : List Row) : Type 0 where
  low : m ≤ row.lead.lo
  high : row.lead.lo ≤ row.lead.hi
  rest : leads_ascend (suc row.lead.hi) rows ≡ true

ascends : (m : ℕ) (row : Row) (rows : List Row) → leads_ascend m (row ∷ rows) ≡ true → Ascends m row rows
ascends m row rows a =
    let b = and_r (leb m row.lead.lo) _ a in
    record {
      low = leb-true m row.lead.lo (and_l (leb m row.lead.lo) _ a);
      high = leb-true row.lead.lo row.lead.hi (and_l (leb row.lead.lo row.lead.hi) _ b);
      rest = and_r (leb row.lead.lo row.lead.hi) _ b;
    }

none_of : (rows : List Row) → is_sequence rows [] ≡ false
unfolding is_sequence is_row
none_of [] = refl
none_of (row ∷ rows) = none_of rows

lead_above : (m : ℕ) (rows : List Row) (b : ℕ) (bs : List ℕ) → leads_ascend m rows ≡ true → is_sequence rows (b ∷ bs) ≡ true → m ≤ b
unfolding is_sequence is_row
lead_above m [] b bs a e = absurd (false≢true e)
lead_above m (row ∷ rows) b bs a e =
    let asc = ascends m row rows a in
    ⊎_elim
    (λ h. omega (arith, asc, leb-true row.lead.lo b (and_l (leb row.lead.lo b) (leb b row.lead.hi) (and_l (in_range row.lead b) _ h))))
    (λ h. omega (arith, asc, lead_above (suc row.lead.hi) rows b bs asc.rest h))
    (or_cases (is_row row (b ∷ bs)) _ e)

not_in : (r : Range) (b : ℕ) → r.hi < b → in_range r b ≡ false
not_in r b h = rw (lt-leb b r.hi h) (go (leb r.lo b))
  where
    go : (t : Bool) → t && false ≡ false
    go true = refl
    go false = refl

len_of : (m : ℕ) (rows : List Row) (b : ℕ) (bs cs : List ℕ) → leads_ascend m rows ≡ true → is_sequence rows (b ∷ bs) ≡ true → len_by rows b (bs ++ cs) ≡ suc (length bs)
unfolding len_by is_sequence is_row
len_of m [] b bs cs a e = absurd (false≢true e)
len_of m (row ∷ rows) b bs cs a e =
    let asc = ascends m row rows a in
    ⊎_elim
    (λ h.
    let t = and_r (in_range row.lead b) (all_in row.behind bs && eqb (length bs) (length row.behind)) h in
    let l : in_range row.lead b ≡ true = and_l (in_range row.lead b) _ h in
    let r : all_in row.behind (bs ++ cs) ≡ true = all_append row.behind bs cs (and_l (all_in row.behind bs) _ t) in
    rw (l, r) (ap suc (sym (eqb-true (length bs) (length row.behind) (and_r (all_in row.behind bs) _ t)))))
    (λ h. rw (not_in row.lead b (lead_above (suc row.lead.hi) rows b bs asc.rest h)) (len_of (suc row.lead.hi) rows b bs cs asc.rest h))
    (or_cases (is_row row (b ∷ bs)) _ e)

seq_len : (s t : List ℕ) → is_sequence table s ≡ true → char_len (s ++ t) ≡ length s
unfolding char_len table
seq_len [] t e = absurd (true≢false (sym e ∙ none_of table))
seq_len (b ∷ bs) t e = len_of 0 table b bs t refl e

seq_some : (s : List ℕ) → is_sequence table s ≡ true → length s ≡ 0 → ⊥
seq_some [] e z = true≢false (sym e ∙ none_of table)
seq_some (b ∷ bs) e z = omega arith

-- ---- what can be cut into sequences is found well-formed

pub well_good : {s : List ℕ} → WellFormed s → (p : ℕ) → formed_from 0 p s ≡ Well
unfolding formed_from
well_good none p = refl
well_good (more s {t} e w) p = go s (seq_len s t e) (λ q. well_good w q)
  where
    go : (s : List ℕ) → char_len (s ++ t) ≡ length s → ((p : ℕ) → formed_from 0 p t ≡ Well) → formed_from 0 p (s ++ t) ≡ Well
    go [] l r = r p
    go (b ∷ bs) l r = rw l (formed_skip (length bs) (suc p) (bs ++ t) ∙ ap (formed_from 0 (suc p + length bs)) (drop-append_seam bs t) ∙ r (suc p + length bs))

-- ---- and the other way

-- what a sequence of n + 1 bytes at the head of a list leaves
record Cut (b : ℕ) (bs : List ℕ) (n : ℕ) : Type 0 where
  is_seq : is_sequence table (b ∷ take n bs) ≡ true
  joins : b ∷ take n bs ++ drop n bs ≡ b ∷ bs
  shorter : length (drop n bs) ≤ length bs

cut : (b : ℕ) (bs : List ℕ) (n : ℕ) → char_len (b ∷ bs) ≡ suc n → Cut b bs n
unfolding char_len
cut b bs n e = record { is_seq = row_of table b n bs e; joins = ap (b ∷◌) (take-append-drop n bs); shorter = omega (arith, length-drop n bs) }

-- the first sequence of a text, if it has one
lead : (n p : ℕ) (r : Formed) → at_lead n p r ≡ Well → (n ≡ suc (pred n)) × (r ≡ Well)
lead zero p r e = let z : ◌≡◌ {A = ℕ} 0 1 = cc in absurd (omega arith)
lead (suc n) p r e = (refl, e)

cut_all : (fuel p : ℕ) (s : List ℕ) → length s ≤ fuel → formed_from 0 p s ≡ Well → WellFormed s
unfolding formed_from
cut_all zero p [] h e = none
cut_all zero p (b ∷ bs) h e = absurd (not-suc-le-zero h)
cut_all (suc fuel) p [] h e = none
cut_all (suc fuel) p (b ∷ bs) h e =
    let r = lead (char_len (b ∷ bs)) p _ e in
    let n = pred (char_len (b ∷ bs)) in
    let k = cut b bs n r.0 in
    subst WellFormed k.joins (more (b ∷ take n bs) k.is_seq (cut_all fuel (suc p + n) (drop n bs) (omega (arith, k.shorter)) (sym (formed_skip n (suc p) bs) ∙ r.1)))

pub good_well : (s : List ℕ) → formed s ≡ Well → WellFormed s
good_well s e = cut_all (length s) 0 s (omega arith) e

-- ---- an ill-formed place is the first

none_here : (s : List ℕ) → char_len s ≡ 0 → (n : ℕ) → is_sequence table (take n s) ≡ false
none_here s z n = go (is_sequence table (take n s)) refl
  where
    go : (t : Bool) → is_sequence table (take n s) ≡ t → t ≡ false
    go false e = refl
    go true e = absurd (seq_some (take n s) e (sym (seq_len (take n s) (drop n s) e) ∙ ap char_len (take-append-drop n s) ∙ z))

-- the first ill-formed place, k bytes into a list whose own place is q
record IllAt (q p : ℕ) (s : List ℕ) : Type 0 where
  far : ℕ
  place : p ≡ q + far
  ill : FirstIll s far

lead_ill : (n p q : ℕ) (r : Formed) → at_lead n q r ≡ Ill p → ((n ≡ 0) × (q ≡ p)) ⊎ ((n ≡ suc (pred n)) × (r ≡ Ill p))
lead_ill zero p q r e = inl (refl, ap ill_place e)
  where
    ill_place : Formed → ℕ
    ill_place (Err i) = i.at
    ill_place (Ok u) = p
lead_ill (suc n) p q r e = inr (refl, e)

at_once : (q : ℕ) (b : ℕ) (bs : List ℕ) → char_len (b ∷ bs) ≡ 0 → IllAt q q (b ∷ bs)
at_once q b bs z = record { far = 0; place = omega arith; ill = record { inside = omega arith; before = none; here = none_here (b ∷ bs) z } }

later : (q p n : ℕ) (b : ℕ) (bs : List ℕ) → Cut b bs n → n ≤ length bs → IllAt (suc q + n) p (drop n bs) → IllAt q p (b ∷ bs)
later q p n b bs k h i = record {
  far = suc n + i.far;
  place = omega (arith, i.place);
  ill = record {
    inside = omega (arith, i.ill.inside, length-drop n bs);
    before = subst WellFormed (sym front) (more (b ∷ take n bs) k.is_seq i.ill.before);
    here = λ m. ap (λ (l : List ℕ). is_sequence table (take m l)) back ∙ i.ill.here m;
  };
}
  where
    front : take (suc n + i.far) (b ∷ bs) ≡ (b ∷ take n bs) ++ take i.far (drop n bs)
    front = rw suc-add (ap (b ∷◌) (take-add n i.far bs))

    back : drop (suc n + i.far) (b ∷ bs) ≡ drop i.far (drop n bs)
    back = rw suc-add (sym (drop-drop i.far n bs))

ill_from : (fuel q p : ℕ) (s : List ℕ) → length s ≤ fuel → formed_from 0 q s ≡ Ill p → IllAt q p s
unfolding formed_from
ill_from zero q p [] h e = let z : ◌≡◌ {A = ℕ} 0 1 = cc in absurd (omega arith)
ill_from zero q p (b ∷ bs) h e = absurd (not-suc-le-zero h)
ill_from (suc fuel) q p [] h e = let z : ◌≡◌ {A = ℕ} 0 1 = cc in absurd (omega arith)
ill_from (suc fuel) q p (b ∷ bs) h e =
    let n = pred (char_len (b ∷ bs)) in
    ⊎_elim
    (λ z. subst (λ (p : ℕ). IllAt q p (b ∷ bs)) z.1 (at_once q b bs z.0))
    (λ r.
    let k = cut b bs n r.0 in
    later q p n b bs k (omega (arith, char_le (b ∷ bs), r.0)) (ill_from fuel (suc q + n) p (drop n bs) (omega (arith, k.shorter)) (sym (formed_skip n (suc q) bs) ∙ r.1)))
    (lead_ill (char_len (b ∷ bs)) p q _ e)

pub ill_first : (s : List ℕ) (p : ℕ) → formed s ≡ Ill p → FirstIll s p
ill_first s p e =
    let i = ill_from (length s) 0 p s (omega arith) e in
    let z : i.far ≡ p = omega (arith, i.place) in
    subst (FirstIll s) z i.ill
