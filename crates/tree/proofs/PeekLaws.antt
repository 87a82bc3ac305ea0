-- What a cursor finds: the list that it shows, and the list that it keeps, from one record to the next. Assumes nothing.
use Rattle.std.specs.Prelude.{Some, None}
use mathlib.Core.Path.{◌≡◌, refl, sym, ap, ◌∙◌}
use mathlib.Core.Logic.{⊎_elim}
use mathlib.Core.Bool.{Bool, true, false, cond}
use mathlib.Core.List.{List, [], ◌∷◌}
use Prim.Native.Nat.{ℕ, zero, suc, ◌-◌, ◌≤◌, ◌<◌}
use native.Mathlib.Omega.{arith}
use lib.ListN.{length}
use Rattle.tree.specs.declared.record.RecordNo.{RecordNo}
use Rattle.tree.specs.declared.record.Record.{Record}
use Rattle.tree.specs.declared.cursor.Cursor.{Cursor}
use Rattle.tree.specs.Table.{node_of}
use Rattle.tree.specs.Cursor.{shown, passes, kept, behind, cursor_of, head_of, first_of, peek_of}
use Rattle.tree.specs.Nodes.{FirstAt, PeekAt}
use Rattle.white.proofs.Bools.{le_or_lt}
use Rattle.tree.proofs.CursorLaws.{behind_le, shown_past, shown_out, shown_cons}

pub head_none : (ks : List ℕ) → head_of ks ≡ None → ks ≡ []
head_none [] e = refl
head_none (k ∷ ks) e = let z : ◌≡◌ {A = ℕ} 0 1 = cc in absurd (omega arith)

none_at : {A : Type 0} {ks : List ℕ} {k : RecordNo} → ks ≡ [] → head_of ks ≡ Some k → A
none_at q e = let z : ◌≡◌ {A = ℕ} 0 1 = cc in absurd (omega arith)

-- ---- the first record left

first_here : (rs : List Record) (c : Cursor) → c.at.0 < c.end.0 → c.at.0 < length rs → FirstAt rs c c.at.0
first_here rs c h l = record { place = refl; before = h; here = l; list = shown_cons rs c.at.0 c.end.0 h l }

pub first_at : (rs : List Record) (c : Cursor) {k : RecordNo} → first_of rs c ≡ Some k → FirstAt rs c k.0
first_at rs c {k} e =
    ⊎_elim (λ h. none_at (shown_past rs c h) e)
    (λ h. ⊎_elim (λ l. none_at (shown_out rs c l) e) (λ l. go h l) (le_or_lt (length rs) c.at.0))
    (le_or_lt c.end.0 c.at.0)
  where
    go : c.at.0 < c.end.0 → c.at.0 < length rs → FirstAt rs c k.0
    go h l =
        let q : Some c.at ≡ Some k = sym (ap head_of (shown_cons rs c.at.0 c.end.0 h l)) ∙ e in
        let same : c.at ≡ k = cc in
        rw (← same) (first_here rs c h l)

-- ---- the first that is no white space and no comment

module _ (rs : List Record) (end : ℕ) where
  kept_cons : (at : ℕ) → at < end → at < length rs → kept rs (shown rs (cursor_of at end)) ≡ cond (passes (node_of rs at)) (kept rs (shown rs (cursor_of (behind rs at) end))) (at ∷ kept rs (shown rs (cursor_of (behind rs at) end)))
  unfolding kept
  kept_cons at h l = ap (kept rs) (shown_cons rs at end h l)

  -- what holds of the record that is found, and of a place whose record is passed over if it holds behind it, holds where the cursor stands
  module _ (P : ℕ → Type 0) (k : RecordNo)
      (found : (at : ℕ) → at < end → at < length rs → passes (node_of rs at) ≡ false → at ≡ k.0 → P at)
      (passed : (at : ℕ) → at < end → at < length rs → passes (node_of rs at) ≡ true → P (behind rs at) → P at) where
    turn : (at : ℕ) → at < end → at < length rs → peek_of rs (cursor_of at end) ≡ Some k → (peek_of rs (cursor_of (behind rs at) end) ≡ Some k → P (behind rs at)) → P at
    turn at h l e later = go (passes (node_of rs at)) refl (kept_cons at h l)
      where
        rest : List ℕ
        rest = kept rs (shown rs (cursor_of (behind rs at) end))

        go : (t : Bool) → passes (node_of rs at) ≡ t → kept rs (shown rs (cursor_of at end)) ≡ cond t rest (at ∷ rest) → P at
        go false p q =
            let s : Some (record { 0 = at }) ≡ Some k = sym (ap head_of q) ∙ e in
            let same : ◌≡◌ {A = RecordNo} (record { 0 = at }) k = cc in
            found at h l p (ap (λ (x : RecordNo). x.0) same)
        go true p q = passed at h l p (later (sym (ap head_of q) ∙ e))

    -- by the number of records that may still come
    turns : (n at : ℕ) → end - at ≤ n → peek_of rs (cursor_of at end) ≡ Some k → P at
    unfolding kept
    turns zero at f e = none_at (ap (kept rs) (shown_past rs (cursor_of at end) (omega arith))) e
    turns (suc n) at f e =
        ⊎_elim (λ h. none_at (ap (kept rs) (shown_past rs (cursor_of at end) h)) e)
        (λ h. ⊎_elim (λ l. none_at (ap (kept rs) (shown_out rs (cursor_of at end) l)) e) (λ l. turn at h l e (turns n (behind rs at) (omega (arith, (behind_le rs at).1 l)))) (le_or_lt (length rs) at))
        (le_or_lt end at)

    pub peeked : (at : ℕ) → peek_of rs (cursor_of at end) ≡ Some k → P at
    peeked at e = turns (end - at) at (omega arith) e

pub peek_at : (rs : List Record) (c : Cursor) {k : RecordNo} → peek_of rs c ≡ Some k → PeekAt rs c k.0
peek_at rs c {k} e = peeked rs c.end.0 (λ at. PeekAt rs (cursor_of at c.end.0) k.0) k found passed c.at.0 e
  where
    found : (at : ℕ) → at < c.end.0 → at < length rs → passes (node_of rs at) ≡ false → at ≡ k.0 → PeekAt rs (cursor_of at c.end.0) k.0
    found at h l p q = rw (← q) (record { from = omega arith; before = h; here = l; stays = p; list = rw p at (kept_cons rs c.end.0 at h l) })

    passed : (at : ℕ) → at < c.end.0 → at < length rs → passes (node_of rs at) ≡ true → PeekAt rs (cursor_of (behind rs at) c.end.0) k.0 → PeekAt rs (cursor_of at c.end.0) k.0
    passed at h l p r = record { from = omega (arith, r.from, (behind_le rs at).1 l); before = r.before; here = r.here; stays = r.stays; list = (rw p at (kept_cons rs c.end.0 at h l)) ∙ r.list }
