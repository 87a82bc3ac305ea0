-- Good levels taken apart: the first record, the records below it, the siblings behind it. Assumes nothing.
use Rattle.std.specs.Prelude.{Some}
use mathlib.Core.Path.{◌≡◌, subst}
use mathlib.Core.Logic.{⊎_elim}
use mathlib.Core.List.{List, ◌∷◌, ◌++◌}
use Prim.Native.Nat.{ℕ, zero, suc, ◌+◌, ◌-◌, ◌≤◌, ◌<◌, min}
use native.Mathlib.Nat.{min-eq_right, sub-zero}
use native.Mathlib.Omega.{arith}
use lib.ListN.{length, take, drop, get_or, length-append, length-drop, get_or-append}
use lib.Seq.{take_at, drop_at, take-take, take-append-le, drop-append-le, drop-append-add, get_or-append-add, drop-cons, drop-drop, length-take-le, take-length}
use Rattle.tree.specs.declared.record.Record.{Record}
use Rattle.tree.specs.declared.cursor.Cursor.{Cursor}
use Rattle.tree.specs.Records.{cut_record, start_of, end_of}
use Rattle.opening.specs.Good.{GoodRecord, GoodLevel, none, more}
use Rattle.tree.specs.Table.{node_of}
use Rattle.tree.specs.Cursor.{behind, top_of, taken_as}
use Rattle.opening.specs.Nodes.{LevelAt, NodeAt, StepAt}
use Rattle.white.proofs.Bools.{le_or_lt}
use Rattle.tree.proofs.RecordLaws.{drop_take}

-- ---- wider bounds

widen : {src : List ℕ} {lo lo' hi hi' : ℕ} {r : Record} → lo' ≤ lo → hi ≤ hi' → GoodRecord src lo hi r → GoodRecord src lo' hi' r
widen l h g = record { whole = g.whole; after = omega (arith, g.after); order = g.order; within = omega (arith, g.within); inside = g.inside; start_on = g.start_on; end_on = g.end_on }

-- one level more may be left
deepen : {src : List ℕ} {d lo hi : ℕ} {rs : List Record} → GoodLevel src d lo hi rs → GoodLevel src (suc d) lo hi rs
deepen none = none
deepen (more r below behind g n inner rest) = more r below behind g n (deepen inner) (deepen rest)

-- ---- the first record of a good level

record Opened (src : List ℕ) (d lo hi : ℕ) (r : Record) (rs : List Record) : Type 0 where
  some : 0 < d
  good : GoodRecord src lo hi r
  fits : r.below ≤ length rs
  inner : GoodLevel src (d - 1) (start_of r) (end_of r) (take r.below rs)
  rest : GoodLevel src d (end_of r) hi (drop r.below rs)

open_level : {src : List ℕ} {d lo hi : ℕ} {r : Record} {rs : List Record} → GoodLevel src d lo hi (r ∷ rs) → Opened src d lo hi r rs
open_level {src} {lo = lo} {hi = hi} (more {d = d} r below behind g n inner rest) = record {
  some = omega arith;
  good = g;
  fits = omega (arith, length-append below behind);
  inner = let e : suc d - 1 ≡ d = omega arith in rw (e, take_at below behind r.below n) inner;
  rest = rw (drop_at below behind r.below n) rest;
}

-- ---- any record of a good level

-- record j of rs, which has d levels left
record Within (src : List ℕ) (d lo hi j : ℕ) (rs : List Record) : Type 0 where
  good : GoodRecord src lo hi (node_of rs j)
  fits : suc j + (node_of rs j).below ≤ length rs
  inner : GoodLevel src d (start_of (node_of rs j)) (end_of (node_of rs j)) (take (node_of rs j).below (drop (suc j) rs))

within_tail : {src : List ℕ} {d lo hi j : ℕ} {r : Record} {rs : List Record} → Within src d lo hi j rs → Within src d lo hi (suc j) (r ∷ rs)
unfolding node_of
within_tail w = record { good = w.good; fits = omega (arith, w.fits); inner = w.inner }

module _ {src : List ℕ} {d lo hi j : ℕ} (xs ys : List Record) where
  within_left : j < length xs → Within src d lo hi j xs → Within src d lo hi j (xs ++ ys)
  unfolding node_of
  within_left h w =
      let same : get_or (xs ++ ys) j (cut_record 0) ≡ get_or xs j (cut_record 0) = get_or-append xs ys (cut_record 0) j h in
      let b = (get_or xs j (cut_record 0)).below in
      let cut : take b (drop (suc j) (xs ++ ys)) ≡ take b (drop (suc j) xs) = rw (drop-append-le (suc j) xs ys h) (take-append-le b (drop (suc j) xs) ys (omega (arith, w.fits, length-drop (suc j) xs))) in
      record { good = rw same w.good; fits = rw same (omega (arith, w.fits, length-append xs ys)); inner = rw (same, cut) w.inner }

  within_right : Within src d lo hi j ys → Within src d lo hi (length xs + j) (xs ++ ys)
  unfolding node_of
  within_right w =
      let next : suc (length xs + j) ≡ length xs + suc j = omega arith in
      let same : get_or (xs ++ ys) (length xs + j) (cut_record 0) ≡ get_or ys j (cut_record 0) = get_or-append-add xs ys j (cut_record 0) in
      let cut : drop (suc (length xs + j)) (xs ++ ys) ≡ drop (suc j) ys = rw next (drop-append-add xs ys (suc j)) in
      record { good = rw same w.good; fits = rw same (omega (arith, w.fits, length-append xs ys)); inner = rw (same, cut) w.inner }

within_deeper : {src : List ℕ} (d : ℕ) {lo hi j : ℕ} {rs : List Record} → Within src (d - 1) lo hi j rs → Within src d lo hi j rs
within_deeper zero w = w
within_deeper (suc d) w = let e : suc d - 1 ≡ d = omega arith in record { good = w.good; fits = w.fits; inner = deepen (rw e at w.inner) }

within_wider : {src : List ℕ} {d lo lo' hi hi' j : ℕ} {rs : List Record} → lo' ≤ lo → hi ≤ hi' → Within src d lo hi j rs → Within src d lo' hi' j rs
within_wider l h w = record { good = widen l h w.good; fits = w.fits; inner = w.inner }

any_within : {src : List ℕ} {d lo hi : ℕ} {rs : List Record} → GoodLevel src d lo hi rs → (j : ℕ) → j < length rs → Within src (d - 1) lo hi j rs
unfolding node_of
any_within none j h = absurd (omega arith)
any_within (more r below behind g n inner rest) zero h =
    let o = open_level (more r below behind g n inner rest) in
    record { good = g; fits = omega (arith, o.fits); inner = o.inner }
any_within {src} {lo = lo} {hi = hi} (more {d = d} r below behind g n inner rest) (suc j) h =
    let e : suc d - 1 ≡ d = omega arith in
    rw e (within_tail (⊎_elim
    (λ l.
    let m : length below + (j - length below) ≡ j = omega arith in
    let w = any_within rest (j - length below) (omega (arith, length-append below behind)) in
    subst (λ (k : ℕ). Within src d lo hi k (below ++ behind)) m (within_right below behind (within_wider (omega (arith, g.after, g.order)) (omega arith) (rw e at w))))
    (λ l. within_left below behind l (within_wider g.after g.within (within_deeper d (any_within inner j l))))
    (le_or_lt (length below) j)))

-- ---- nodes

node_at : {src : List ℕ} {rs : List Record} {d lo hi k : ℕ} → Within src d lo hi k rs → NodeAt src rs d lo hi k
unfolding behind
node_at {src} {rs} {d} {lo} {hi} {k} w =
    let last : behind rs k ≡ suc k + (node_of rs k).below = min-eq_right w.fits in
    let first : min (length rs) (suc k) ≡ suc k = min-eq_right (omega (arith, w.fits)) in
    let size : suc k + (node_of rs k).below - suc k ≡ (node_of rs k).below = omega arith in
    record {
      here = omega (arith, w.fits);
      good = w.good;
      last = last;
      below = record { order = omega arith; inside = omega (arith, w.fits); level = rw (first, last, size) w.inner };
    }

pub any_node : {src : List ℕ} {d lo hi : ℕ} {rs : List Record} → GoodLevel src d lo hi rs → (k : ℕ) → k < length rs → NodeAt src rs (d - 1) lo hi k
any_node g k h = node_at (any_within g k h)

-- ---- a cursor over a good level

module _ {src : List ℕ} {rs : List Record} {d lo hi : ℕ} {c : Cursor} (v : LevelAt src rs d lo hi c) (h : c.at.0 < c.end.0) where
  at_split : take (c.end.0 - c.at.0) (drop c.at.0 rs) ≡ node_of rs c.at.0 ∷ take (c.end.0 - suc c.at.0) (drop (suc c.at.0) rs)
  unfolding node_of
  at_split =
      let q : c.end.0 - c.at.0 ≡ suc (c.end.0 - suc c.at.0) = omega arith in
      rw (q, drop-cons rs c.at.0 (cut_record 0) (omega (arith, v.inside)))

  opened : Opened src d lo hi (node_of rs c.at.0) (take (c.end.0 - suc c.at.0) (drop (suc c.at.0) rs))
  opened = open_level (rw at_split at v.level)

  ends : suc c.at.0 + (node_of rs c.at.0).below ≤ c.end.0
  ends = omega (arith, opened.fits, length-take-le (c.end.0 - suc c.at.0) (drop (suc c.at.0) rs) (omega (arith, v.inside, length-drop (suc c.at.0) rs)))

  first_within : Within src (d - 1) lo hi c.at.0 rs
  first_within = record {
    good = opened.good;
    fits = omega (arith, ends, v.inside);
    inner = rw (take-take (node_of rs c.at.0).below (c.end.0 - suc c.at.0) (drop (suc c.at.0) rs) (omega (arith, ends))) at opened.inner;
  }

  pub first_step : StepAt src rs d lo hi c c.at.0
  first_step =
      let node = node_at first_within in
      let b = (node_of rs c.at.0).below in
      let m : c.end.0 - suc c.at.0 - b ≡ c.end.0 - (suc c.at.0 + b) = omega arith in
      record {
        some = opened.some;
        from = omega arith;
        node = node;
        rest = record {
          order = omega (arith, node.last, ends);
          inside = v.inside;
          level = rw node.last (rw (drop_take, drop-drop, m) at opened.rest);
        };
      }

-- what a cursor over a good level finds further on, it finds from the first record on
pub step_on : {src : List ℕ} {rs : List Record} {d lo hi k : ℕ} {c : Cursor} (s : StepAt src rs d lo hi c c.at.0) → StepAt src rs d (end_of (node_of rs c.at.0)) hi (taken_as rs c (Some c.at)).rest k → StepAt src rs d lo hi c k
step_on {src} {rs} {d} {lo} {hi} {k} {c} s t = record {
  some = t.some;
  from = omega (arith, t.from, s.node.last);
  node = record { here = t.node.here; good = widen (omega (arith, s.node.good)) (omega arith) t.node.good; last = t.node.last; below = t.node.below };
  rest = t.rest;
}

pub level_of : {src : List ℕ} {d lo hi : ℕ} {rs : List Record} → GoodLevel src d lo hi rs → LevelAt src rs d lo hi (top_of (length rs))
level_of {src} {d} {lo} {hi} {rs} g = record { order = omega arith; inside = omega arith; level = rw (sub-zero, take-length) g }
