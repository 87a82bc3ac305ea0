-- Laws of where a chain breaks: the records behind its head one by one, as the loops go over them. Assumes nothing.
use Rattle.text.proofs.Base.{◌≡◌, refl, ◌∙◌, ◌⊎◌, inl, inr, Bool, true, false, List, ◌∷◌, ℕ, zero, suc, ◌≤◌, ◌<◌, ◌+◌, ◌-◌, length, eq-eqb, ne_eqb, arith}
use Rattle.std.specs.Prelude.{Option, Some, None, MatchOption}
use native.Mathlib.Numerals.{add-one}
use Rattle.text.specs.declared.span.Span.{Span}
use Rattle.text.specs.Span.{joined}
use Rattle.text.specs.Span as span
use Rattle.width.specs.Count.{is_wide}
use Rattle.tree.specs.declared.record.Record.{Record}
use Rattle.tree.specs.declared.record.RecordNo.{RecordNo}
use Rattle.tree.specs.Table.{node_of}
use Rattle.tree.specs.Cursor.{found_of, shown, behind, cursor_of}
use Rattle.tree.proofs.Laws.{found_is, found_not, shown_past}
use Rattle.kinds.specs.declared.Kind.{Kind}
use Rattle.kinds.specs.Facts.{byte_of}
use Rattle.meaning.specs.State.{Script}
use Rattle.loose.specs.declared.chain.Call.{Call}
use Rattle.loose.specs.Chain.{is_dot, behind_head, tail_in, dot_behind, head_of, first_in, breaks_at, chain_from}
use Rattle.loose.proofs.ReasonLaws.{first_left, goes_behind}

-- ---- the first call

-- from `at` on, numbered n, the records have the first call that they have from the start on
pub record Calling (rs : List Record) (start end at n : ℕ) : Type 0 where
  pub inside : end ≤ length rs
  pub few : n ≤ suc at
  pub same : tail_in rs n (shown rs (cursor_of at end)) ≡ tail_in rs 1 (shown rs (cursor_of start end))

pub call_starts : {rs : List Record} {start end : ℕ} → end ≤ length rs → Calling rs start end start 1
call_starts h = record { inside = h; few = omega arith; same = refl }

module _ {rs : List Record} {start end at n : ℕ} (g : Calling rs start end at n) where
  pub call_none : end ≤ at → None ≡ tail_in rs 1 (shown rs (cursor_of start end))
  unfolding tail_in
  call_none h = rw (shown_past rs (cursor_of at end) h) at g.same

  module _ (h : at < end) {kind : ℕ} (q : kind ≡ (node_of rs at).kind) where
    call_here : tail_in rs n (at ∷ shown rs (cursor_of (behind rs at) end)) ≡ tail_in rs 1 (shown rs (cursor_of start end))
    call_here = rw (first_left rs g.inside h) at g.same

    pub call_found : kind ≡ byte_of Kind.ExprCall → Some (record { nth = n; at = record { 0 = at } }) ≡ tail_in rs 1 (shown rs (cursor_of start end))
    unfolding tail_in call_here
    call_found e = rw (← q, eq-eqb _ _ e) at call_here

    pub call_next : {to : ℕ} → (kind ≡ byte_of Kind.ExprCall → ⊥) → to ≡ behind rs at → Calling rs start end to (n + 1)
    unfolding tail_in call_here
    call_next d b = record { inside = g.inside; few = omega (arith, g.few, goes_behind rs g.inside h b); same = rw (b, add-one n) (rw (← q, ne_eqb _ _ d) at call_here) }

-- ---- a field or an await behind the first n

-- from `at` on, with n still to pass, the records say what they say from the start on
pub record Dotting (rs : List Record) (start end all at n : ℕ) : Type 0 where
  pub inside : end ≤ length rs
  pub same : dot_behind rs n (shown rs (cursor_of at end)) ≡ dot_behind rs all (shown rs (cursor_of start end))

pub dot_starts : {rs : List Record} {start end n : ℕ} → end ≤ length rs → Dotting rs start end n start n
dot_starts h = record { inside = h; same = refl }

module _ {rs : List Record} {start end all at n : ℕ} (g : Dotting rs start end all at n) where
  pub dot_none : end ≤ at → false ≡ dot_behind rs all (shown rs (cursor_of start end))
  unfolding dot_behind
  dot_none h = rw (shown_past rs (cursor_of at end) h) at g.same

  module _ (h : at < end) where
    dot_here : dot_behind rs n (at ∷ shown rs (cursor_of (behind rs at) end)) ≡ dot_behind rs all (shown rs (cursor_of start end))
    dot_here = rw (first_left rs g.inside h) at g.same

    pub dot_found : {kind : ℕ} {t : Bool} → n ≡ 0 → kind ≡ (node_of rs at).kind → t ≡ is_dot kind → t ≡ true → true ≡ dot_behind rs all (shown rs (cursor_of start end))
    unfolding dot_behind dot_here
    dot_found z q p e = rw (z, ← q, ← p, e) at dot_here

    -- one of the first n, or none of the two kinds
    pub dot_next : {to m : ℕ} → ((n ≡ 0) × (is_dot (node_of rs at).kind ≡ false)) ⊎ (n ≡ 0 → ⊥) → m ≡ n - 1 → to ≡ behind rs at → Dotting rs start end all to m
    unfolding dot_behind dot_here
    dot_next (inl z) e b = let s : n - 1 ≡ n = omega (arith, z.0) in rw (b, e, s) (record { inside = g.inside; same = rw z.0 (rw (z.0, z.1) at dot_here) })
    dot_next (inr d) e b = record { inside = g.inside; same = rw (b, e) (by n d dot_here) }
      where
        by : (n : ℕ) → (n ≡ 0 → ⊥) → dot_behind rs n (at ∷ shown rs (cursor_of (behind rs at) end)) ≡ dot_behind rs all (shown rs (cursor_of start end)) → dot_behind rs (n - 1) (shown rs (cursor_of (behind rs at) end)) ≡ dot_behind rs all (shown rs (cursor_of start end))
        by zero d y = absurd (d refl)
        by (suc n) d y = let e : suc n - 1 ≡ n = omega arith in rw e y

-- ---- the head's span

module _ (rs : List Record) (head : RecordNo) {a : Record} (e : a ≡ node_of rs head.0) where
  pub head_alone : {t : Option Call} → None ≡ t → a.span ≡ head_of rs head t
  unfolding head_of
  head_alone h = rw (← h, e)

  pub head_called : {t : Option Call} {c : Call} {b : Record} {s j : Span} → Some c ≡ t → b ≡ node_of rs c.at.0 → s ≡ span.head_of b.span → j ≡ joined a.span s → j ≡ head_of rs head t
  unfolding head_of
  head_called h f g i = i ∙ rw (← h, e, g, f)

pub first_is : (t : Option Call) {n : ℕ} {P : Call → Type 0} → MatchOption t (n ≡ 1) P → ((c : Call) → P c → n ≡ c.nth) → n ≡ first_in t
unfolding first_in
first_is None h f = h
first_is (Some c) h f = f c h

-- ---- the whole question

module _ (x : Script) (k head : RecordNo) (h : head.0 < 8192) {t : Bool} (e : t ≡ is_wide x.source (node_of x.tree k.0).span 80) where
  pub chain_fits : t ≡ false → 8192 ≡ chain_from x k (found_of head)
  unfolding chain_from
  chain_fits f = rw (found_is {k = head} h, ← e, f)

  pub chain_breaks : {n : ℕ} → t ≡ true → n ≡ breaks_at x head (behind_head x.tree k head) → n ≡ chain_from x k (found_of head)
  unfolding chain_from
  chain_breaks f g = rw (found_is {k = head} h, ← e, f) g

pub chain_headless : (x : Script) (k head : RecordNo) → 8192 ≤ head.0 → 8192 ≡ chain_from x k (found_of head)
unfolding chain_from
chain_headless x k head h = rw (found_not {k = head} h)

module _ (x : Script) (head : RecordNo) (ks : List ℕ) {c : Option Call} (q : c ≡ tail_in x.tree 1 ks) {s : Span} (p : s ≡ head_of x.tree head c) {t : Bool} (e : t ≡ is_wide x.source s 80) where
  pub breaks_wide : t ≡ true → 0 ≡ breaks_at x head ks
  unfolding breaks_at
  breaks_wide f = rw (← q, ← p, ← e, f)

  module _ (f : t ≡ false) {n : ℕ} (g : n ≡ first_in c) {u : Bool} (d : u ≡ dot_behind x.tree n ks) where
    pub breaks_dot : u ≡ true → 0 ≡ breaks_at x head ks
    unfolding breaks_at
    breaks_dot i = rw (← q, ← p, ← e, f, ← g, ← d, i)

    pub breaks_first : u ≡ false → n ≡ breaks_at x head ks
    unfolding breaks_at
    breaks_first i = rw (← q, ← p, ← e, f, ← g, ← d, i)
