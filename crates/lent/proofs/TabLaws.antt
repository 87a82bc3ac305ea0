-- Tables: a function's values in a row. Assumes nothing.
use Rattle.text.proofs.Base.{◌≡◌, refl, ap, [], ◌∷◌, ◌++◌, ℕ, zero, suc, ◌+◌, ◌-◌, ◌<◌, ◌≤◌, arith, length, take, drop}
use native.Mathlib.Nat.{add-zero}
use Rattle.lent.specs.View.{tab}

pub length_tab : {A : Type 0} (f : ℕ → A) (i n : ℕ) → length (tab f i n) ≡ n
unfolding tab
length_tab f i zero = refl
length_tab f i (suc n) = ap suc (length_tab f (suc i) n)

pub tab_same : {A : Type 0} (f g : ℕ → A) (i j n : ℕ) → ((k : ℕ) → k < n → f (i + k) ≡ g (j + k)) → tab f i n ≡ tab g j n
unfolding tab
tab_same f g i j zero h = refl
tab_same {A} f g i j (suc n) h =
    let e : f i ≡ g j = simp add-zero at (h 0 (omega arith)) in
    let r : tab f (suc i) n ≡ tab g (suc j) n = tab_same f g (suc i) (suc j) n (λ k l. let p : suc i + k ≡ i + suc k = omega arith in let q : suc j + k ≡ j + suc k = omega arith in rw (p, q) (h (suc k) (omega arith))) in
    rw (e, r)

pub tab_snoc : {A : Type 0} (f : ℕ → A) (i n : ℕ) → tab f i (n + 1) ≡ tab f i n ++ (f (i + n) ∷ [])
unfolding tab
tab_snoc f i zero = rw add-zero
tab_snoc f i (suc n) =
    let p : suc n + 1 ≡ suc (n + 1) = omega arith in
    let q : i + suc n ≡ suc i + n = omega arith in
    rw (p, q, tab_snoc f (suc i) n)

pub drop_tab : {A : Type 0} (f : ℕ → A) (i n j : ℕ) → drop j (tab f i n) ≡ tab f (i + j) (n - j)
unfolding tab
drop_tab f i n zero = let p : n - 0 ≡ n = omega arith in rw (add-zero i, p)
drop_tab f i zero (suc j) = let p : 0 - suc j ≡ 0 = omega arith in rw p
drop_tab f i (suc n) (suc j) =
    let p : suc n - suc j ≡ n - j = omega arith in
    let q : i + suc j ≡ suc i + j = omega arith in
    rw (p, q) (drop_tab f (suc i) n j)

pub take_tab : {A : Type 0} (f : ℕ → A) (i n j : ℕ) → j ≤ n → take j (tab f i n) ≡ tab f i j
unfolding tab
take_tab f i n zero h = refl
take_tab f i zero (suc j) h = absurd (omega arith)
take_tab f i (suc n) (suc j) h = ap (f i ∷◌) (take_tab f (suc i) n j (omega arith))

-- the rest of a table, at a place within it and behind it
pub tab_next : {A : Type 0} (f : ℕ → A) (h n i : ℕ) → i < n → tab f (h + i) (n - i) ≡ f (h + i) ∷ tab f (h + (i + 1)) (n - (i + 1))
unfolding tab
tab_next f h n i l =
    let p : n - i ≡ suc (n - (i + 1)) = omega arith in
    let q : h + (i + 1) ≡ suc (h + i) = omega arith in
    rw (p, q)

pub tab_none : {A : Type 0} (f : ℕ → A) (h n i : ℕ) → n ≤ i → tab f (h + i) (n - i) ≡ []
unfolding tab
tab_none f h n i l = let p : n - i ≡ 0 = omega arith in rw p

pub tab_all : {A : Type 0} (f : ℕ → A) (h n : ℕ) → tab f (h + 0) (n - 0) ≡ tab f h n
tab_all f h n = let p : n - 0 ≡ n = omega arith in rw (add-zero h, p)
