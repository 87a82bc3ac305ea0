-- A level of the check, record by record. Assumes nothing.
use mathlib.Core.Path.{◌≡◌, refl, ◌∙◌}
use mathlib.Core.Bool.{Bool, true, false, cond, ◌&&◌}
use mathlib.Core.List.{List, [], ◌∷◌}
use Prim.Native.Nat.{ℕ, zero, suc, ◌+◌, ◌-◌, ◌≤◌, ◌<◌, zero-le}
use native.Mathlib.Nat.{add-zero, add-suc, suc-add}
use native.Mathlib.Numerals.{add-one}
use native.Mathlib.Omega.{arith}
use lib.Dec.{leb}
use lib.ListN.{length, take, drop}
use lib.Seq.{take-take, length-take-le}
use borrow.Author.Tests.{leb-true, leb-false}
use Rattle.text.specs.Chars.{in_source}
use Rattle.tree.specs.declared.record.Record.{Record}
use Rattle.tree.specs.Records.{start_of, end_of}
use Rattle.opening.specs.Check.{Finding, fine, bad, deep, ◌then◌, keeps, along, level}
use Rattle.white.proofs.Bools.{and_l, and_r}
use Rattle.tree.proofs.RecordLaws.{drop_take}

-- ---- a record that keeps the rules

-- what `keeps` tests, one by one
pub record Kept (src : List ℕ) (lo hi n : ℕ) (r : Record) : Type 0 where
  pub whole : r.whole ≡ true
  pub fewer : r.below ≤ n
  pub after : lo ≤ start_of r
  pub within : end_of r ≤ hi
  pub inside : in_source src r.span ≡ true

pub kept_of : {src : List ℕ} {lo hi n : ℕ} {r : Record} → keeps src lo hi n r ≡ true → Kept src lo hi n r
unfolding keeps
kept_of {src} {lo} {hi} {n} {r} e =
    let f = and_r r.whole _ e in
    let g = and_r (leb r.below n) _ f in
    let h = and_r (leb lo (start_of r)) _ g in
    record {
      whole = and_l r.whole _ e;
      fewer = leb-true _ _ (and_l (leb r.below n) _ f);
      after = leb-true _ _ (and_l (leb lo (start_of r)) _ g);
      within = leb-true _ _ (and_l (leb (end_of r) hi) _ h);
      inside = and_r (leb (end_of r) hi) _ h;
    }

-- the five tests, one after the other
pub keeps_by : (src : List ℕ) (lo hi n : ℕ) (r : Record) {a b c d : Bool} → a ≡ r.whole && leb r.below n → b ≡ a && leb lo (start_of r) → c ≡ b && leb (end_of r) hi → d ≡ in_source src r.span → c && d ≡ keeps src lo hi n r
unfolding keeps
keeps_by src lo hi n r e f g h = rw (g, f, e, h) (go r.whole (leb r.below n) (leb lo (start_of r)) (leb (end_of r) hi) (in_source src r.span))
  where
    go : (v w x y z : Bool) → (((v && w) && x) && y) && z ≡ v && (w && (x && (y && z)))
    go false w x y z = refl
    go true false x y z = refl
    go true true false y z = refl
    go true true true y z = refl

-- ---- the first of the siblings

-- what is found below a record that keeps the rules, with d levels left for it and all below it
abbrev pub under : List ℕ → ℕ → ℕ → Record → List Record → Finding
under src zero i r rs = deep i
under src (suc d) i r rs = level src d 0 (suc i) (start_of r) (end_of r) (take r.below rs)

pub level_along : (src : List ℕ) (d k i lo hi : ℕ) (rs : List Record) → level src d k i lo hi rs ≡ along src (under src d) k i lo hi rs
unfolding level
level_along src zero k i lo hi rs = refl
level_along src (suc d) k i lo hi rs = refl

pub level_none : (src : List ℕ) (d k i lo hi : ℕ) → level src d k i lo hi [] ≡ fine
unfolding along
level_none src d k i lo hi = level_along src d k i lo hi []

pub along_skip : (src : List ℕ) (f : ℕ → Record → List Record → Finding) (k i lo hi : ℕ) (rs : List Record) → along src f k i lo hi rs ≡ along src f 0 (i + k) lo hi (drop k rs)
unfolding along
along_skip src f zero i lo hi rs = rw add-zero
along_skip src f (suc k) i lo hi [] = refl
along_skip src f (suc k) i lo hi (r ∷ rs) = along_skip src f k (suc i) lo hi rs ∙ rw (suc-add, add-suc)

-- too many, a bad one, or what is found below it and then the siblings behind
pub turn : (src : List ℕ) (d i lo hi n : ℕ) (r : Record) (rs : List Record) → 0 < n → n - 1 ≤ length rs →
    level src d 0 i lo hi (take n (r ∷ rs)) ≡
    cond (leb 8192 i) (bad 8192)
    (cond (keeps src lo hi (n - 1) r)
    (under src d i r (take (n - 1) rs) then level src d 0 (i + 1 + r.below) (end_of r) hi (take (n - 1 - r.below) (drop r.below rs)))
    (bad i))
unfolding along
turn src d i lo hi zero r rs p h = absurd (omega arith)
turn src d i lo hi (suc m) r rs p h =
    let q : suc m - 1 ≡ m = omega arith in
    let e : length (take m rs) ≡ m = length-take-le m rs (omega arith) in
    level_along src d 0 i lo hi (r ∷ take m rs)
    ∙ rw (q, e, along_skip src (under src d) r.below (suc i) (end_of r) hi (take m rs), ← level_along, drop_take, add-one)

pub under_is : (src : List ℕ) (d i m : ℕ) (r : Record) (rs : List Record) → (d ≡ 0 → ⊥) → r.below ≤ m → under src d i r (take m rs) ≡ level src (d - 1) 0 (i + 1) (start_of r) (end_of r) (take r.below rs)
under_is src zero i m r rs nz h = absurd (nz refl)
under_is src (suc d) i m r rs nz h = let e : suc d - 1 ≡ d = omega arith in rw (e, add-one, take-take r.below m rs h)

pub under_zero : (src : List ℕ) (d i : ℕ) (r : Record) (rs : List Record) → d ≡ 0 → under src d i r rs ≡ deep i
under_zero src zero i r rs z = refl
under_zero src (suc d) i r rs z = absurd (omega arith)

-- ---- where nothing is wrong, there are at most 8,192 records

pub fine_then : (a b : Finding) → (a then b) ≡ fine → (a ≡ fine) × (b ≡ fine)
fine_then fine b e = (refl, e)
fine_then (bad i) b e = let z : ◌≡◌ {A = ℕ} 0 1 = cc in absurd (omega arith)
fine_then (deep i) b e = let z : ◌≡◌ {A = ℕ} 0 1 = cc in absurd (omega arith)

-- the first record of a level where nothing is wrong: its number is below 8,192, it keeps the rules, and so do all below it and behind it
pub record First (src : List ℕ) (f : ℕ → Record → List Record → Finding) (i lo hi : ℕ) (r : Record) (rs : List Record) : Type 0 where
  pub few : i < 8192
  pub kept : Kept src lo hi (length rs) r
  pub below : f i r rs ≡ fine
  pub behind : along src f r.below (suc i) (end_of r) hi rs ≡ fine

pub first_of : (src : List ℕ) (f : ℕ → Record → List Record → Finding) (i lo hi : ℕ) (r : Record) (rs : List Record) → along src f 0 i lo hi (r ∷ rs) ≡ fine → First src f i lo hi r rs
unfolding along
first_of src f i lo hi r rs e = go (leb 8192 i) (keeps src lo hi (length rs) r) refl refl e
  where
    go : (t u : Bool) → leb 8192 i ≡ t → keeps src lo hi (length rs) r ≡ u → cond t (bad 8192) (cond u (f i r rs then along src f r.below (suc i) (end_of r) hi rs) (bad i)) ≡ fine → First src f i lo hi r rs
    go true u p q e = let z : ◌≡◌ {A = ℕ} 0 1 = cc in absurd (omega arith)
    go false false p q e = let z : ◌≡◌ {A = ℕ} 0 1 = cc in absurd (omega arith)
    go false true p q e =
        let g = fine_then (f i r rs) (along src f r.below (suc i) (end_of r) hi rs) e in
        record { few = leb-false 8192 i p; kept = kept_of q; below = g.0; behind = g.1 }

along_few : (src : List ℕ) (f : ℕ → Record → List Record → Finding) → ((i : ℕ) (r : Record) (rs : List Record) → i < 8192 → r.below ≤ length rs → f i r rs ≡ fine → suc i + r.below ≤ 8192) →
    (k i lo hi : ℕ) (rs : List Record) → along src f k i lo hi rs ≡ fine → k ≤ length rs → i + k ≤ 8192 → i + length rs ≤ 8192
unfolding along
along_few src f g k i lo hi [] e h l = omega arith
along_few src f g (suc k) i lo hi (r ∷ rs) e h l = omega (arith, along_few src f g k (suc i) lo hi rs e (omega arith) (omega arith))
along_few src f g zero i lo hi (r ∷ rs) e h l =
    let a = first_of src f i lo hi r rs e in
    omega (arith, along_few src f g r.below (suc i) (end_of r) hi rs a.behind a.kept.fewer (g i r rs a.few a.kept.fewer a.below))

pub level_few : (src : List ℕ) (d k i lo hi : ℕ) (rs : List Record) → level src d k i lo hi rs ≡ fine → k ≤ length rs → i + k ≤ 8192 → i + length rs ≤ 8192
unfolding level
level_few src zero = along_few src (under src zero) (λ i r rs few fits e. let z : ◌≡◌ {A = ℕ} 0 1 = cc in absurd (omega arith))
level_few src (suc d) = along_few src (under src (suc d)) (λ i r rs few fits e. omega (arith, level_few src d 0 (suc i) (start_of r) (end_of r) (take r.below rs) e zero-le (omega arith), length-take-le r.below rs fits))
