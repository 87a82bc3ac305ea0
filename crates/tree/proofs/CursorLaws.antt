-- Siblings one by one: what a cursor shows, and what is left behind the first. Assumes nothing.
use Rattle.std.specs.Prelude.{Option, Some, None}
use mathlib.Core.Path.{◌≡◌, refl, sym, ap, ◌∙◌}
use mathlib.Core.Logic.{⊎_elim}
use mathlib.Core.Bool.{Bool, true, false, cond}
use mathlib.Core.List.{List, [], ◌∷◌}
use Prim.Native.Nat.{ℕ, zero, suc, ◌+◌, ◌-◌, ◌≤◌, ◌<◌, min}
use native.Mathlib.Nat.{add-zero, add-suc, suc-add, le_of_lt, min-eq_left, min-eq_right}
use native.Mathlib.Omega.{arith}
use borrow.Author.Tests.{lt-ltb, le-ltb}
use lib.ListN.{length, take, drop, length-take, length-drop, drop_of_length-le}
use lib.Seq.{drop-cons, drop-drop, drop-length, take-nil, take_all}
use Rattle.tree.specs.declared.record.RecordNo.{RecordNo}
use Rattle.tree.specs.declared.record.Record.{Record}
use Rattle.tree.specs.declared.cursor.Cursor.{Cursor}
use Rattle.tree.specs.Records.{cut_record}
use Rattle.tree.specs.Table.{node_of}
use Rattle.tree.specs.Cursor.{found_of, siblings, shown, passes, kept, behind, cursor_of, head_of, peek_of, first_of}
use Rattle.white.proofs.Bools.{le_or_lt}
use Rattle.tree.proofs.RecordLaws.{drop_take}

-- ---- where a node's records lie

module _ (rs : List Record) where
  module _ (k : ℕ) {n : ℕ} {r : Record} (all : n ≡ length rs) (read : r ≡ node_of rs k) where
    pub behind_is : min (k + 1 + r.below) n ≡ behind rs k
    unfolding behind
    behind_is = sym (rw (← read, ← all) (omega arith))

  pub behind_le : (k : ℕ) → (behind rs k ≤ length rs) × (k < length rs → k < behind rs k)
  unfolding behind
  behind_le k = (omega arith, λ h. omega arith)

-- ---- what a cursor shows

siblings_skip : (k i : ℕ) (rs : List Record) → siblings k i rs ≡ siblings 0 (i + k) (drop k rs)
unfolding siblings
siblings_skip zero i rs = rw add-zero
siblings_skip (suc k) i [] = refl
siblings_skip (suc k) i (r ∷ rs) = siblings_skip k (suc i) rs ∙ rw (suc-add, add-suc)

siblings_none : (k i : ℕ) → siblings k i [] ≡ []
unfolding siblings
siblings_none k i = refl

module _ (rs : List Record) (c : Cursor) where
  pub shown_past : c.end.0 ≤ c.at.0 → shown rs c ≡ []
  unfolding shown
  shown_past h = let z : c.end.0 - c.at.0 ≡ 0 = omega arith in rw z (siblings_none 0 c.at.0)

  pub shown_out : length rs ≤ c.at.0 → shown rs c ≡ []
  unfolding shown
  shown_out h = rw (drop_of_length-le rs h, take-nil) (siblings_none 0 c.at.0)

-- a cursor that ends behind the list shows what the list has
pub shown_min : (rs : List Record) (at end : ℕ) → shown rs (cursor_of at (min (length rs) end)) ≡ shown rs (cursor_of at end)
unfolding shown
shown_min rs at end = ⊎_elim over within (le_or_lt (length rs) end)
  where
    over : length rs ≤ end → siblings 0 at (take (min (length rs) end - at) (drop at rs)) ≡ siblings 0 at (take (end - at) (drop at rs))
    over h =
        let l : length (drop at rs) ≡ length rs - at = length-drop at rs in
        rw (min-eq_left h, take_all (length rs - at) (drop at rs) (omega arith), take_all (end - at) (drop at rs) (omega arith))

    within : end < length rs → siblings 0 at (take (min (length rs) end - at) (drop at rs)) ≡ siblings 0 at (take (end - at) (drop at rs))
    within h = rw (min-eq_right (le_of_lt h))

-- the first of them, and the rest behind it and all below it
module _ (rs : List Record) (at end : ℕ) (h : at < end) (l : at < length rs) where
  below : ℕ
  below = (node_of rs at).below

  first_split : drop at rs ≡ node_of rs at ∷ drop (suc at) rs
  unfolding node_of
  first_split = drop-cons rs at (cut_record 0) l

  -- behind the first, both ways to skip what lies below it agree, also where the list ends before
  meet : siblings 0 (suc at + below) (take (end - suc at - below) (drop (suc at + below) rs)) ≡ siblings 0 (behind rs at) (take (end - behind rs at) (drop (behind rs at) rs))
  unfolding behind below
  meet = ⊎_elim inside outside (le_or_lt (suc at + below) (length rs))
    where
      Goal : Type 0
      Goal = siblings 0 (suc at + below) (take (end - suc at - below) (drop (suc at + below) rs)) ≡ siblings 0 (behind rs at) (take (end - behind rs at) (drop (behind rs at) rs))

      inside : suc at + below ≤ length rs → Goal
      inside f =
          let b : behind rs at ≡ suc at + below = min-eq_right f in
          let m : end - suc at - below ≡ end - (suc at + below) = omega arith in
          rw (b, m)

      outside : length rs < suc at + below → Goal
      outside f =
          let b : behind rs at ≡ length rs = min-eq_left (le_of_lt f) in
          simp (b, drop_of_length-le rs (le_of_lt f), drop-length, take-nil) (siblings_none 0 (suc at + below) ∙ sym (siblings_none 0 (length rs)))

  pub shown_cons : shown rs (cursor_of at end) ≡ at ∷ shown rs (cursor_of (behind rs at) end)
  unfolding shown siblings below
  shown_cons =
      let q : end - at ≡ suc (end - suc at) = omega arith in
      rw (q, first_split) (ap (at ∷◌) (siblings_skip below (suc at) (take (end - suc at) (drop (suc at) rs)) ∙ rw (drop_take, drop-drop) meet))

-- no more are shown than there are, and no more are kept than are shown
siblings_few : (k i : ℕ) (rs : List Record) → length (siblings k i rs) ≤ length rs
unfolding siblings
siblings_few k i [] = omega arith
siblings_few (suc k) i (r ∷ rs) = omega (arith, siblings_few k (suc i) rs)
siblings_few zero i (r ∷ rs) = omega (arith, siblings_few r.below (suc i) rs)

pub shown_few : (rs : List Record) (c : Cursor) → length (shown rs c) ≤ length rs
unfolding shown
shown_few rs c = omega (arith, siblings_few 0 c.at.0 (take (c.end.0 - c.at.0) (drop c.at.0 rs)), length-take (c.end.0 - c.at.0) (drop c.at.0 rs), length-drop c.at.0 rs)

pub kept_few : (rs : List Record) (ks : List ℕ) → length (kept rs ks) ≤ length ks
unfolding kept
kept_few rs [] = omega arith
kept_few rs (k ∷ ks) = go (passes (node_of rs k)) (kept_few rs ks)
  where
    go : (t : Bool) → length (kept rs ks) ≤ length ks → length (cond t (kept rs ks) (k ∷ kept rs ks)) ≤ suc (length ks)
    go true l = omega arith
    go false l = omega arith

-- ---- the cursor's answers

-- a number, and what it says was found
pub found_is : {k : RecordNo} → k.0 < 8192 → found_of k ≡ Some k
unfolding found_of
found_is {k} h = rw (lt-ltb k.0 8192 h)

pub found_not : {k : RecordNo} → 8192 ≤ k.0 → found_of k ≡ None
unfolding found_of
found_not {k} h = rw (le-ltb k.0 8192 h)

module _ (rs : List Record) (c : Cursor) where
  pub first_in : c.at.0 < c.end.0 → c.at.0 < length rs → Some c.at ≡ first_of rs c
  first_in h l = sym (ap head_of (shown_cons rs c.at.0 c.end.0 h l))

  pub first_past : c.end.0 ≤ c.at.0 → None ≡ first_of rs c
  first_past h = sym (ap head_of (shown_past rs c h))

  pub first_out : length rs ≤ c.at.0 → None ≡ first_of rs c
  first_out h = sym (ap head_of (shown_out rs c h))

-- from `at` on the cursor keeps what it keeps from its own place on
pub record Peeking (rs : List Record) (c : Cursor) (at : ℕ) : Type 0 where
  pub same : kept rs (shown rs (cursor_of at c.end.0)) ≡ kept rs (shown rs c)

pub peek_starts : {rs : List Record} {c : Cursor} → Peeking rs c c.at.0
peek_starts = record { same = refl }

module _ {rs : List Record} {c : Cursor} {at : ℕ} (v : Peeking rs c at) where
  pub peek_past : c.end.0 ≤ at → None ≡ peek_of rs c
  unfolding kept
  peek_past h = ap head_of (sym (ap (kept rs) (shown_past rs (cursor_of at c.end.0) h)) ∙ v.same)

  module _ (h : at < c.end.0) (l : at < length rs) where
    first_kept : kept rs (shown rs (cursor_of at c.end.0)) ≡ cond (passes (node_of rs at)) (kept rs (shown rs (cursor_of (behind rs at) c.end.0))) (at ∷ kept rs (shown rs (cursor_of (behind rs at) c.end.0)))
    unfolding kept
    first_kept = ap (kept rs) (shown_cons rs at c.end.0 h l)

    pub peek_finds : passes (node_of rs at) ≡ false → Some (record { 0 = at }) ≡ peek_of rs c
    peek_finds e = ap head_of (sym (rw e at first_kept) ∙ v.same)

    pub peek_passes : {to : ℕ} → passes (node_of rs at) ≡ true → to ≡ behind rs at → Peeking rs c to
    peek_passes e q = rw q (record { same = sym (rw e at first_kept) ∙ v.same })

-- as far as the list goes
pub peek_min : (rs : List Record) (at end : ℕ) {last : ℕ} {f : Option RecordNo} → last ≡ min (length rs) end → f ≡ peek_of rs (cursor_of at last) → f ≡ peek_of rs (cursor_of at end)
peek_min rs at end q e = e ∙ ap (λ (n : ℕ). peek_of rs (cursor_of at n)) q ∙ ap (λ (ks : List ℕ). head_of (kept rs ks)) (shown_min rs at end)
