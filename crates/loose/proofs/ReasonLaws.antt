-- Laws of the reason why a list goes loose: the records one by one, as the loop goes over them. Assumes nothing.
use Rattle.text.proofs.Base.{◌≡◌, refl, ◌⊎◌, inl, inr, Bool, true, false, List, ◌∷◌, ℕ, ◌≤◌, ◌<◌, ◌+◌, length, eq-eqb, ne_eqb, arith}
use Rattle.std.specs.Prelude.{Option, Some, None}
use native.Mathlib.Numerals.{add-one}
use Rattle.text.specs.declared.span.BytePos.{BytePos}
use Rattle.width.specs.Count.{is_wide, place_in}
use Rattle.tree.specs.declared.record.Record.{Record}
use Rattle.tree.specs.declared.record.RecordNo.{RecordNo}
use Rattle.tree.specs.Table.{node_of}
use Rattle.tree.specs.Cursor.{shown, behind, cursor_of}
use Rattle.tree.proofs.Laws.{shown_next, shown_past, behind_more, behind_within}
use Rattle.kinds.specs.declared.Kind.{Kind}
use Rattle.kinds.specs.Facts.{byte_of}
use Rattle.meaning.specs.State.{Script}
use Rattle.loose.specs.declared.reason.Reason.{Reason}
use Rattle.loose.specs.declared.reason.Reason.TheVariants.{Wide, Comment, Sixth}
use Rattle.loose.specs.Reason.{is_entry, crowd, children_from, reason}

-- ---- a node's records one by one, as far as the record behind them

module _ (rs : List Record) {at end : ℕ} (inside : end ≤ length rs) where
  -- the first of those left, and the rest behind it
  pub first_left : at < end → shown rs (cursor_of at end) ≡ at ∷ shown rs (cursor_of (behind rs at) end)
  first_left h = shown_next rs at end h (omega arith)

  -- the loop goes on behind it
  pub goes_behind : {to : ℕ} → at < end → to ≡ behind rs at → at < to
  goes_behind h e = rw e (behind_more rs at (omega arith))

pub within : (rs : List Record) (k : RecordNo) {end : ℕ} → end ≡ behind rs k.0 → end ≤ length rs
within rs k e = rw e (behind_within rs k.0)

-- ---- a line comment, or the sixth entry

-- from `at` on, with n entries before it, the records say what they say from the start on
pub record Crowding (rs : List Record) (keys : Bool) (start end at n : ℕ) : Type 0 where
  pub inside : end ≤ length rs
  pub few : n ≤ 5
  pub same : crowd rs keys n (shown rs (cursor_of at end)) ≡ crowd rs keys 0 (shown rs (cursor_of start end))

pub crowd_starts : {rs : List Record} {keys : Bool} {start end : ℕ} → end ≤ length rs → Crowding rs keys start end start 0
crowd_starts h = record { inside = h; few = omega arith; same = refl }

module _ {rs : List Record} {keys : Bool} {start end at n : ℕ} (g : Crowding rs keys start end at n) where
  pub crowd_fits : end ≤ at → None ≡ crowd rs keys 0 (shown rs (cursor_of start end))
  unfolding crowd
  crowd_fits h = rw (shown_past rs (cursor_of at end) h) at g.same

  module _ (h : at < end) {kind : ℕ} (q : kind ≡ (node_of rs at).kind) where
    here : crowd rs keys n (at ∷ shown rs (cursor_of (behind rs at) end)) ≡ crowd rs keys 0 (shown rs (cursor_of start end))
    here = rw (first_left rs g.inside h) at g.same

    pub crowd_comment : kind ≡ byte_of Kind.Comment → Some (Comment (record { 0 = at })) ≡ crowd rs keys 0 (shown rs (cursor_of start end))
    unfolding crowd here
    crowd_comment e = rw (← q, eq-eqb _ _ e) at here

    module _ (d : kind ≡ byte_of Kind.Comment → ⊥) {t : Bool} (p : t ≡ is_entry keys kind) where
      pub crowd_sixth : t ≡ true → n ≡ 5 → Some (Sixth (record { 0 = at })) ≡ crowd rs keys 0 (shown rs (cursor_of start end))
      unfolding crowd here
      crowd_sixth e f = rw (← q, ne_eqb _ _ d, ← p, e, f) at here

      -- an entry more, or none
      pub crowd_next : {to m : ℕ} → ((t ≡ true) × (n ≡ 5 → ⊥) × (m ≡ n + 1)) ⊎ ((t ≡ false) × (m ≡ n)) → to ≡ behind rs at → Crowding rs keys start end to m
      unfolding crowd here
      crowd_next (inl z) b = rw (b, z.2) (record { inside = g.inside; few = omega (arith, g.few, z.1); same = rw (add-one n) (rw (← q, ne_eqb _ _ d, ← p, z.0, ne_eqb _ _ z.1) at here) })
      crowd_next (inr z) b = rw (b, z.1) (record { inside = g.inside; few = g.few; same = rw (← q, ne_eqb _ _ d, ← p, z.0) at here })

-- ---- the whole question

module _ (x : Script) (keys : Bool) (k : RecordNo) (from : ℕ) {t : Bool} (e : t ≡ is_wide x.source (node_of x.tree k.0).span 80) where
  pub too_wide : {p : BytePos} → t ≡ true → p ≡ place_in x.source (node_of x.tree k.0).span 80 → Some (Wide p) ≡ reason x keys k from
  unfolding reason
  too_wide h q = rw (← e, h, q)

  pub by_crowd : {r : Option Reason} → t ≡ false → r ≡ crowd x.tree keys 0 (children_from x.tree k from) → r ≡ reason x keys k from
  unfolding reason
  by_crowd h r = rw (← e, h) r
