-- Parts of a well-formed text at character boundaries, and texts joined, are well-formed. Assumes nothing.
use mathlib.Core.Path.{◌≡◌, refl, sym, ap, ◌∙◌}
use mathlib.Core.Bool.{true, false, false≢true}
use mathlib.Core.List.{List, [], ◌∷◌, ◌++◌}
use Prim.Native.Nat.{ℕ, zero, suc, pred, ◌-◌, ◌≤◌, zero-le, suc-le-suc}
use native.Mathlib.Nat.{le_of_suc-le-suc, not-suc-le-zero, sub-zero, suc-sub-suc}
use lib.ListN.{length, take, drop}
use Rattle.encoding.specs.Utf8.{Formed, Well, cont, in_range, char_len, at_lead, formed_from, formed}
use Rattle.text.specs.Span.{between}
use Rattle.text.specs.Chars.{edge_from, starts}
use Rattle.encoding.proofs.RowLaws.{char_le, char_append, char_take}
use Rattle.text.proofs.CharLaws.{well_lead, starts_edge}

-- a sequence ends within the list that it begins
pub behind_le : (b : ℕ) (bs : List ℕ) → pred (char_len (b ∷ bs)) ≤ length bs
behind_le b bs = go (char_len (b ∷ bs)) (char_le (b ∷ bs))
  where
    go : (n : ℕ) → n ≤ suc (length bs) → pred n ≤ length bs
    go zero h = zero-le
    go (suc n) h = le_of_suc-le-suc h

well_at : (n p : ℕ) (r : Formed) → (n ≡ 0 → ⊥) → r ≡ Well → at_lead n p r ≡ Well
well_at zero p r ne e = absurd (ne refl)
well_at (suc n) p r ne e = e

-- the place that the count starts from makes no difference
pub well_any : (k p q : ℕ) (s : List ℕ) → formed_from k p s ≡ Well → formed_from k q s ≡ Well
unfolding formed_from
well_any k p q [] e = refl
well_any (suc k) p q (b ∷ bs) e = well_any k (suc p) (suc q) bs e
well_any zero p q (b ∷ bs) e =
    let r = well_lead (char_len (b ∷ bs)) p _ e in
    well_at (char_len (b ∷ bs)) q _ r.0 (well_any (pred (char_len (b ∷ bs))) (suc p) (suc q) bs r.1)

join_from : (k p : ℕ) (xs ys : List ℕ) → k ≤ length xs → formed_from k p xs ≡ Well → formed ys ≡ Well → formed_from k p (xs ++ ys) ≡ Well
unfolding formed_from
join_from zero p [] ys h e f = well_any 0 0 p ys f
join_from (suc k) p [] ys h e f = absurd (not-suc-le-zero h)
join_from (suc k) p (x ∷ xs) ys h e f = join_from k (suc p) xs ys (le_of_suc-le-suc h) e f
join_from zero p (x ∷ xs) ys h e f =
    let r = well_lead (char_len (x ∷ xs)) p _ e in
    rw (char_append x xs ys r.0) (well_at (char_len (x ∷ xs)) p _ r.0 (join_from (pred (char_len (x ∷ xs))) (suc p) xs ys (behind_le x xs) r.1 f))

pub formed_append : (xs ys : List ℕ) → formed xs ≡ Well → formed ys ≡ Well → formed (xs ++ ys) ≡ Well
formed_append xs ys e f = join_from 0 0 xs ys zero-le e f

-- ---- parts

edge_le : (k p : ℕ) (s : List ℕ) → k ≤ length s → edge_from k p s ≡ true → k ≤ p
unfolding edge_from
edge_le zero p s h e = zero-le
edge_le (suc k) p [] h e = absurd (not-suc-le-zero h)
edge_le (suc k) zero (b ∷ bs) h e = absurd (false≢true e)
edge_le (suc k) (suc p) (b ∷ bs) h e = suc-le-suc (edge_le k p bs (le_of_suc-le-suc h) e)

pub formed_take : (k p q : ℕ) (s : List ℕ) → formed_from k q s ≡ Well → edge_from k p s ≡ true → formed_from k q (take p s) ≡ Well
unfolding formed_from edge_from
formed_take k zero q s w e = refl
formed_take k (suc p) q [] w e = refl
formed_take (suc k) (suc p) q (b ∷ bs) w e = formed_take k p (suc q) bs w e
formed_take zero (suc p) q (b ∷ bs) w e =
    let r = well_lead (char_len (b ∷ bs)) q _ w in
    rw (char_take b p bs (edge_le (pred (char_len (b ∷ bs))) p bs (behind_le b bs) e) r.0) (well_at (char_len (b ∷ bs)) q _ r.0 (formed_take (pred (char_len (b ∷ bs))) p (suc q) bs r.1 e))

formed_drop : (k p q : ℕ) (s : List ℕ) → formed_from k q s ≡ Well → edge_from k p s ≡ true → formed (drop p s) ≡ Well
unfolding formed_from edge_from
formed_drop k zero q [] w e = refl
formed_drop zero zero q (b ∷ bs) w e = well_any 0 q 0 (b ∷ bs) w
formed_drop (suc k) zero q (b ∷ bs) w e = absurd (false≢true e)
formed_drop k (suc p) q [] w e = refl
formed_drop (suc k) (suc p) q (b ∷ bs) w e = formed_drop k p (suc q) bs w e
formed_drop zero (suc p) q (b ∷ bs) w e = formed_drop (pred (char_len (b ∷ bs))) p (suc q) bs (well_lead (char_len (b ∷ bs)) q _ w).1 e

starts_drop : (a b : ℕ) (s : List ℕ) → a ≤ b → starts b s ≡ true → starts (b - a) (drop a s) ≡ true
unfolding starts
starts_drop zero b s h e = rw sub-zero e
starts_drop (suc a) zero s h e = absurd (not-suc-le-zero h)
starts_drop (suc a) (suc b) [] h e = absurd (false≢true e)
starts_drop (suc a) (suc b) (x ∷ s) h e = rw suc-sub-suc (starts_drop a b s (le_of_suc-le-suc h) e)

pub between_formed : (s : List ℕ) (a b : ℕ) → formed s ≡ Well → a ≤ b → starts a s ≡ true → starts b s ≡ true → formed (between s a b) ≡ Well
between_formed s a b w h ea eb =
    let d = formed_drop 0 a 0 s w (sym (starts_edge a 0 s w) ∙ ea) in
    formed_take 0 (b - a) 0 (drop a s) d (sym (starts_edge (b - a) 0 (drop a s) d) ∙ starts_drop a b s h eb)

-- a text ends where a byte that goes on nothing follows
take_front : (xs ys : List ℕ) → take (length xs) (xs ++ ys) ≡ xs
take_front [] ys = refl
take_front (x ∷ xs) ys = ap (x ∷◌) (take_front xs ys)

at_seam : (xs : List ℕ) (y : ℕ) (ys : List ℕ) → in_range cont y ≡ false → starts (length xs) (xs ++ y ∷ ys) ≡ true
unfolding starts
at_seam [] y ys n = rw n
at_seam (x ∷ xs) y ys n = at_seam xs y ys n

pub formed_front : (xs : List ℕ) (y : ℕ) (ys : List ℕ) → in_range cont y ≡ false → formed (xs ++ y ∷ ys) ≡ Well → formed xs ≡ Well
formed_front xs y ys n w =
    ap formed (sym (take_front xs (y ∷ ys))) ∙ formed_take 0 (length xs) 0 (xs ++ y ∷ ys) w (sym (starts_edge (length xs) 0 (xs ++ y ∷ ys) w) ∙ at_seam xs y ys n)
