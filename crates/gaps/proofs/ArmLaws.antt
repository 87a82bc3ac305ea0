-- Laws of arms: the last record of a node, and whether an arm's body is a block. Assumes nothing.
use Rattle.std.specs.Prelude.{Option, Some, None}
use Rattle.steps.proofs.Rules.{◌≡◌, refl, sym, ap, ◌∙◌, Bool, true, false, List, [], ◌∷◌, ℕ, ◌<◌, arith, length, Record, RecordNo, Kind, byte_of, node_of}
use Rattle.steps.proofs.Rules.{Stream, next_in, next_is, records_of, take_in, take_any, take_if, Ate, eqb}
use Rattle.walk.proofs.StreamLaws.{none_is}
use Rattle.gaps.specs.Arms.{last_from, last_of, is_block_arm}

-- ---- the last record, one by one

-- of those left, with k before them, the last is the last of all
pub record Lasting (s₀ s : Stream) (k : Option RecordNo) : Type 0 where
  pub same : last_from k s.left ≡ last_from None s₀.left

pub last_starts : {s : Stream} → Lasting s s None
last_starts = record { same = refl }

module _ {s s' : Stream} {k : Option RecordNo} {t : Bool} (q : t ≡ next_is (λ (k : ℕ). true) s) (h : t ≡ true) (a : Ate (take_any s) k s') where
  pub last_next : {s₀ : Stream} {j : Option RecordNo} → Lasting s₀ s j → Lasting s₀ s' k
  unfolding take_if
  last_next {s₀} {j} g = record { same = go s.left (sym q ∙ h) a.found (ap (λ (z : Stream). z.left) a.rest) g.same }
    where
      go : (l : List ℕ) → next_in (λ (k : ℕ). true) l ≡ true → k ≡ (take_in (λ (k : ℕ). true) s.node l).found → s'.left ≡ (take_in (λ (k : ℕ). true) s.node l).rest.left
          → last_from j l ≡ last_from None s₀.left → last_from k s'.left ≡ last_from None s₀.left
      go [] w f r e = let z : ◌≡◌ {A = ℕ} 0 1 = cc in absurd (omega arith)
      go (i ∷ is) w f r e = rw (f, r) e

pub last_less : (s : Stream) {s' : Stream} {k : Option RecordNo} {t : Bool} → t ≡ next_is (λ (k : ℕ). true) s → t ≡ true → Ate (take_any s) k s' → length s'.left < length s.left
unfolding take_if
last_less s {s'} q h a = go s.left (sym q ∙ h) (ap (λ (z : Stream). z.left) a.rest)
  where
    go : (l : List ℕ) → next_in (λ (k : ℕ). true) l ≡ true → s'.left ≡ (take_in (λ (k : ℕ). true) s.node l).rest.left → length s'.left < length l
    go [] w r = let z : ◌≡◌ {A = ℕ} 0 1 = cc in absurd (omega arith)
    go (i ∷ is) w r = rw r (omega arith)

pub last_of_lem : (rs : List Record) (k : RecordNo) {s₀ s : Stream} {j : Option RecordNo} {t : Bool} → s₀ ≡ records_of rs k → t ≡ next_is (λ (k : ℕ). true) s → t ≡ false → Lasting s₀ s j → j ≡ last_of rs k
unfolding last_of
last_of_lem rs k {s₀} {s} {j} e q h g = go s.left (sym q ∙ h) g.same ∙ ap (λ (z : Stream). last_from None z.left) e
  where
    go : (l : List ℕ) → next_in (λ (k : ℕ). true) l ≡ false → last_from j l ≡ last_from None s₀.left → j ≡ last_from None s₀.left
    go [] w e = e
    go (i ∷ is) w e = let z : ◌≡◌ {A = ℕ} 0 1 = cc in absurd (omega arith)

-- ---- the body of an arm

module _ (rs : List Record) (k : RecordNo) {o : Option RecordNo} (a : o ≡ last_of rs k) where
  pub no_body : ((body : RecordNo) → o ≡ Some body → ⊥) → false ≡ is_block_arm rs k
  unfolding is_block_arm
  no_body h = rw (← a, none_is h)

  module _ {body : RecordNo} (h : o ≡ Some body) {i : Option RecordNo} (b : i ≡ last_of rs body) where
    pub block_body : {inner : RecordNo} {n : ℕ} → i ≡ Some inner → n ≡ (node_of rs inner.0).kind → eqb n (byte_of Kind.Block) ≡ is_block_arm rs k
    unfolding is_block_arm
    block_body g e = rw (← a, h, ← b, g, e)

    pub no_inner : ((inner : RecordNo) → i ≡ Some inner → ⊥) → false ≡ is_block_arm rs k
    unfolding is_block_arm
    no_inner g = rw (← a, h, ← b, none_is g)
