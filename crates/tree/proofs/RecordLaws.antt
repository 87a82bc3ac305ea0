-- Records at a byte of the list, and the list of them. Assumes nothing.
use mathlib.Core.Path.{◌≡◌, refl, sym, ap, ◌∙◌}
use mathlib.Core.Bool.{Bool, true, false, cond, false≢true}
use mathlib.Core.List.{List, [], ◌∷◌}
use Prim.Native.Nat.{ℕ, zero, suc, ◌+◌, ◌-◌, ◌*◌, ◌≤◌, ◌<◌, zero-le, suc-le-suc}
use native.Mathlib.Nat.{add-zero, sub-zero, zero-sub, suc-sub-suc}
use native.Mathlib.Numerals.{add-one}
use native.Mathlib.Omega.{arith}
use lib.Dec.{leb, ltb}
use lib.ListN.{length, take, drop, get_or, length-drop, drop_of_length-le}
use lib.Seq.{take-nil, drop-cons, drop-drop, get_or-drop}
use borrow.Author.Tests.{lt-ltb, le-ltb, leb-true, leb-false, ltb-false}
use Rattle.tree.specs.declared.record.Record.{Record}
use Rattle.tree.specs.Records.{four, body_of, span_of, cut_record, record_of, record_at, records_from, records}

-- ---- numbers and records at a byte

pub four_is : (s : List ℕ) (i : ℕ) {a b c d : ℕ} → a ≡ get_or s i 0 → b ≡ get_or s (i + 1) 0 → c ≡ get_or s (i + 2) 0 → d ≡ get_or s (i + 3) 0 → a + b * 0x100 + c * 0x10000 + d * 0x1000000 ≡ four (drop i s)
unfolding four
four_is s i e f g h = simp (get_or-drop, add-zero) (rw (e, f, g, h))

pub body_small : (k : ℕ) → k < 0x80 → body_of k ≡ 8
unfolding body_of
body_small k h = rw (lt-ltb k 0x80 h)

pub body_big : (k : ℕ) → 0x80 ≤ k → body_of k ≡ 12
unfolding body_of
body_big k h = rw (le-ltb k 0x80 h)

pub body_le : (k : ℕ) → (8 ≤ body_of k) × (body_of k ≤ 12)
unfolding body_of
body_le k = go (ltb k 0x80)
  where
    go : (t : Bool) → (8 ≤ cond t 8 12) × (cond t 8 12 ≤ 12)
    go true = omega arith
    go false = omega arith

-- a whole record of kind b with its numbers
abbrev pub whole_of : ℕ → ℕ → ℕ → ℕ → Record
whole_of b start end below = record { whole = true; kind = b; span = span_of start end; below = below }

pub record_none : (s : List ℕ) (at : ℕ) → length s ≤ at → record_at (drop at s) ≡ cut_record 0
unfolding record_at
record_none s at h = rw (drop_of_length-le s h)

module _ (s : List ℕ) (at : ℕ) (h : at < length s) where
  record_in : record_at (drop at s) ≡ record_of (get_or s at 0) (drop (at + 1) s)
  unfolding record_at
  record_in = rw (drop-cons s at 0 h, add-one)

  pub record_cut : length s - (at + 1) < body_of (get_or s at 0) → record_at (drop at s) ≡ cut_record (get_or s at 0)
  unfolding record_of
  record_cut g = record_in ∙ rw (lt-ltb (length (drop (at + 1) s)) (body_of (get_or s at 0)) (rw length-drop g))

  pub record_whole : (x y z : ℕ) → body_of (get_or s at 0) ≤ length s - (at + 1) → x ≡ four (drop (at + 1) s) → y ≡ four (drop (at + 1 + 4) s) → z ≡ cond (ltb (get_or s at 0) 0x80) 0 (four (drop (at + 1 + 8) s)) → whole_of (get_or s at 0) x y z ≡ record_at (drop at s)
  unfolding record_of
  record_whole x y z g ex ey ez = sym (record_in ∙ rw (le-ltb (length (drop (at + 1) s)) (body_of (get_or s at 0)) (rw length-drop g), drop-drop 4 (at + 1) s, drop-drop 8 (at + 1) s, ← ex, ← ey, ← ez))

  numbers : Record
  numbers = whole_of (get_or s at 0) (four (drop (at + 1) s)) (four (drop 4 (drop (at + 1) s))) (cond (ltb (get_or s at 0) 0x80) 0 (four (drop 8 (drop (at + 1) s))))

  pub record_kind : (record_at (drop at s)).kind ≡ get_or s at 0
  unfolding record_of numbers
  record_kind = ap (λ (r : Record). r.kind) record_in ∙ go (ltb (length (drop (at + 1) s)) (body_of (get_or s at 0)))
    where
      go : (t : Bool) → (cond t (cut_record (get_or s at 0)) numbers).kind ≡ get_or s at 0
      go true = refl
      go false = refl

  pub record_fits : (record_at (drop at s)).whole ≡ true → at + 1 + body_of (get_or s at 0) ≤ length s
  unfolding record_of numbers
  record_fits e = go (ltb (length (drop (at + 1) s)) (body_of (get_or s at 0))) refl (sym (ap (λ (r : Record). r.whole) record_in) ∙ e)
    where
      go : (t : Bool) → ltb (length (drop (at + 1) s)) (body_of (get_or s at 0)) ≡ t → (cond t (cut_record (get_or s at 0)) numbers).whole ≡ true → at + 1 + body_of (get_or s at 0) ≤ length s
      go true q w = absurd (false≢true w)
      go false q w = omega (arith, ltb-false (length (drop (at + 1) s)) (body_of (get_or s at 0)) q, length-drop (at + 1) s)

-- ---- the list of records

pub drop_take : {A : Type 0} (k m : ℕ) (l : List A) → drop k (take m l) ≡ take (m - k) (drop k l)
drop_take zero m l = rw sub-zero
drop_take (suc k) zero l = rw zero-sub
drop_take (suc k) (suc m) [] = sym (take-nil (suc m - suc k))
drop_take (suc k) (suc m) (x ∷ l) = rw suc-sub-suc (drop_take k m l)

records_skip : (k : ℕ) (s : List ℕ) → records_from k s ≡ records (drop k s)
unfolding records_from
records_skip zero s = refl
records_skip (suc k) [] = refl
records_skip (suc k) (b ∷ bs) = records_skip k bs

pub records_none : (s : List ℕ) (at : ℕ) → length s ≤ at → records (drop at s) ≡ []
unfolding records_from
records_none s at h = rw (drop_of_length-le s h)

pub records_cons : (s : List ℕ) (at : ℕ) → at < length s → records (drop at s) ≡ record_at (drop at s) ∷ records (drop (at + 1 + body_of (get_or s at 0)) s)
unfolding records_from record_at
records_cons s at h = rw (drop-cons s at 0 h, add-one) (ap (λ (l : List Record). record_of (get_or s at 0) (drop (suc at) s) ∷ l) (records_skip (body_of (get_or s at 0)) (drop (suc at) s) ∙ rw drop-drop))

-- where records are left, bytes are
pub records_in : (s : List ℕ) (at n : ℕ) → 0 < n → n ≤ length (records (drop at s)) → at < length s
records_in s at n p h = go (leb (length s) at) refl
  where
    go : (t : Bool) → leb (length s) at ≡ t → at < length s
    go true e = let z : length (records (drop at s)) ≡ 0 = rw (records_none s at (leb-true (length s) at e)) in absurd (omega arith)
    go false e = leb-false (length s) at e

pub records_few : (k : ℕ) (s : List ℕ) → length (records_from k s) ≤ length s
unfolding records_from
records_few k [] = zero-le
records_few (suc k) (b ∷ bs) = omega (arith, records_few k bs)
records_few zero (b ∷ bs) = suc-le-suc (records_few (body_of b) bs)

pub count_next : (s : List ℕ) (at : ℕ) → at < length s → length (records (drop at s)) ≡ 1 + length (records (drop (at + (1 + body_of (get_or s at 0))) s))
count_next s at h =
    let e : at + 1 + body_of (get_or s at 0) ≡ at + (1 + body_of (get_or s at 0)) = omega arith in
    rw (records_cons s at h, e) (omega arith)

-- a leaf takes nine bytes, a composite thirteen
pub leaf_next : (s : List ℕ) (at : ℕ) → at < length s → get_or s at 0 < 0x80 → length (records (drop at s)) ≡ 1 + length (records (drop (at + 9) s))
leaf_next s at h k = rw (body_small (get_or s at 0) k) at (count_next s at h)

pub node_next : (s : List ℕ) (at : ℕ) → at < length s → 0x80 ≤ get_or s at 0 → length (records (drop at s)) ≡ 1 + length (records (drop (at + 13) s))
node_next s at h k = rw (body_big (get_or s at 0) k) at (count_next s at h)

-- the same by a record that was read there, and the bytes behind its kind
module _ (s : List ℕ) (at bd : ℕ) (r : Record) (h : at < length s) (read : r ≡ record_at (drop at s)) (body : bd ≡ body_of r.kind) where
  size : bd ≡ body_of (get_or s at 0)
  size = body ∙ ap body_of (ap (λ (q : Record). q.kind) read ∙ record_kind s at h)

  pub split : records (drop at s) ≡ r ∷ records (drop (at + 1 + bd) s)
  split = rw (read, size) (records_cons s at h)

  pub fits : r.whole ≡ true → at + 1 + bd ≤ length s
  fits w = rw size (record_fits s at h (sym (ap (λ (q : Record). q.whole) read) ∙ w))
