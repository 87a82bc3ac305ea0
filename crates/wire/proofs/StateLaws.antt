-- The state's bytes as the code reads them: the flags of comments, and the words of the queue. Assumes nothing.
use mathlib.Core.Path.{◌≡◌, refl, sym, ap, ◌∙◌}
use mathlib.Core.Bool.{Bool, true, false, ◌&&◌}
use mathlib.Core.List.{List, [], ◌∷◌, ◌++◌, append_assoc, append-nil}
use Rattle.std.specs.List.{list_all, range_with_len}
use native.Mathlib.Numerals.{add-one}
use Prim.Native.Nat.{ℕ, zero, suc, ◌+◌, ◌-◌, ◌≤◌, ◌<◌, min}
use native.Mathlib.Omega.{arith}
use lib.ListN.{length, set, replicate}
use lib.Seq.{set_at}
use borrow.Author.Tests.{ne_eqb, lt-leb, le-leb}
use Rattle.lent.specs.View.{tab}
use Rattle.lent.proofs.TabLaws.{length_tab, tab_snoc}
use Rattle.wire.specs.Words.{word_at}
use Rattle.wire.specs.StateBytes.{is_flag, comment_word, flags_good, line_flags, shaped}

-- ---- the flags of n comments from the comment k on

pub flags_list : (st : List ℕ) (k n : ℕ) → list_all (λ (j : ℕ). is_flag st (comment_word j + 3)) (range_with_len k n) ≡ line_flags st k n
unfolding line_flags
flags_list st k zero = refl
flags_list st k (suc n) =
    ap (is_flag st (comment_word k + 3) &&◌)
    (ap (λ (m : ℕ). list_all (λ (j : ℕ). is_flag st (comment_word j + 3)) (range_with_len m n)) (add-one k) ∙ flags_list st (suc k) n)

-- ---- the shape, test by test

module _ (st : List ℕ) {a : Bool} (e : a ≡ is_flag st 2) where
  pub flags_two : a ≡ false → false ≡ flags_good st
  flags_two h = rw (sym e ∙ h)

  module _ (two : a ≡ true) {b : Bool} (f : b ≡ is_flag st 3) where
    pub flags_three : b ≡ false → false ≡ flags_good st
    flags_three h = rw (sym e ∙ two, sym f ∙ h)

    pub flags_five : b ≡ true → {c : Bool} → c ≡ is_flag st 5 → c ≡ flags_good st
    flags_five h k = rw (sym e ∙ two, sym f ∙ h) k

module _ (st : List ℕ) (cap : ℕ) where
  pub shape_sized : (length st ≡ 4128 → ⊥) → false ≡ shaped st cap
  unfolding shaped
  shape_sized h = rw (ne_eqb (length st) 4128 h)

  module _ (sized : length st ≡ 4128) where
    pub shape_long : 0xFFFFFFFF < cap → false ≡ shaped st cap
    unfolding shaped
    shape_long h = rw (sized, lt-leb cap 0xFFFFFFFF h)

    module _ (fits : cap ≤ 0xFFFFFFFF) {t : Bool} (e : t ≡ flags_good st) where
      pub shape_flags : t ≡ false → false ≡ shaped st cap
      unfolding shaped
      shape_flags h = rw (sized, le-leb cap 0xFFFFFFFF fits, sym e ∙ h)

      pub shape_lines : t ≡ true → {n : ℕ} {r : Bool} → n ≡ min (word_at st 6) 256 → r ≡ line_flags st 0 n → r ≡ shaped st cap
      unfolding shaped
      shape_lines h en er = rw (sized, le-leb cap 0xFFFFFFFF fits, sym e ∙ h, ← en) er

-- ---- the words of the queue

-- the first i of 1,024 words are read
pub record Reading (st q : List ℕ) (i : ℕ) : Type 0 where
  pub few : i ≤ 1024
  pub same : q ≡ tab (word_at st) 8 i ++ replicate (1024 - i) 0

pub read_start : {st : List ℕ} → Reading st (replicate 1024 0) 0
unfolding tab
read_start = record { few = omega arith; same = refl }

pub read_turn : {st q q' : List ℕ} {i w : ℕ} → Reading st q i → i < 1024 → w ≡ word_at st (8 + i) → q' ≡ set q i w → Reading st q' (i + 1)
read_turn {st} {q} {q'} {i} {w} h l ew e =
    let z : 1024 - i ≡ suc (1024 - (i + 1)) = omega arith in
    let f : tab (word_at st) 8 i ++ (word_at st (8 + i) ∷ replicate (1024 - (i + 1)) 0) ≡ tab (word_at st) 8 (i + 1) ++ replicate (1024 - (i + 1)) 0 =
    sym (append_assoc (tab (word_at st) 8 i) (word_at st (8 + i) ∷ []) (replicate (1024 - (i + 1)) 0)) ∙ ap (◌++ replicate (1024 - (i + 1)) 0) (sym (tab_snoc (word_at st) 8 i)) in
    record {
      few = omega arith;
      same = e ∙ rw (h.same, z, ew) (set_at (tab (word_at st) 8 i) 0 (replicate (1024 - (i + 1)) 0) (word_at st (8 + i)) i (length_tab (word_at st) 8 i) ∙ f);
    }

pub read_end : {st q : List ℕ} {i : ℕ} → Reading st q i → 1024 ≤ i → q ≡ tab (word_at st) 8 1024
read_end {st} {q} {i} h l =
    let e : i ≡ 1024 = omega (arith, h.few) in
    let z : 1024 - i ≡ 0 = omega arith in
    h.same ∙ rw (z, e) (append-nil (tab (word_at st) 8 1024))
