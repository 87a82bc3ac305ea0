-- The check finds nothing wrong exactly where the tree is good. Assumes nothing.
use mathlib.Core.Path.{◌≡◌, refl, sym, ap, ap₂, ◌∙◌, subst}
use mathlib.Core.Bool.{true}
use mathlib.Core.List.{List, [], ◌∷◌, ◌++◌}
use Prim.Native.Nat.{ℕ, zero, suc, ◌+◌, ◌≤◌, zero-le}
use native.Mathlib.Omega.{arith}
use lib.ListN.{length, take, drop, length-append, take-append-drop}
use lib.Seq.{take_at, drop_at, drop-nil, length-take-le}
use borrow.Author.Tests.{le-leb, lt-leb}
use Rattle.encoding.specs.Utf8.{Well, formed}
use Rattle.text.proofs.Laws.{InSource, in_source_lem, is_in_source, starts_edge}
use Rattle.tree.specs.declared.record.RecordNo.{RecordNo}
use Rattle.tree.specs.declared.record.Record.{Record}
use Rattle.std.specs.Prelude.{Ok}
use Rattle.tree.specs.Records.{records, start_of, end_of}
use Rattle.opening.specs.Check.{Finding, fine, bad, deep, ◌then◌, keeps, along, level, verdict_as, checked}
use Rattle.opening.specs.Good.{GoodRecord, GoodLevel, none, more, GoodTree}
use Rattle.opening.proofs.LevelLaws.{Kept, under, level_along, level_none, along_skip, first_of, level_few}

-- ---- one record

pub good_record : {src : List ℕ} {lo hi n : ℕ} {r : Record} → formed src ≡ Well → Kept src lo hi n r → GoodRecord src lo hi r
good_record {src} {lo} {hi} {n} {r} w k =
    let s = in_source_lem src r.span k.inside in
    record {
      whole = k.whole;
      after = k.after;
      order = s.order;
      within = k.within;
      inside = s.inside;
      start_on = sym (starts_edge (start_of r) src w) ∙ s.start_on;
      end_on = sym (starts_edge (end_of r) src w) ∙ s.end_on;
    }

pub span_in : {src : List ℕ} {lo hi : ℕ} {r : Record} → formed src ≡ Well → GoodRecord src lo hi r → InSource src r.span
span_in {src} {lo} {hi} {r} w g = record {
  order = g.order;
  inside = g.inside;
  start_on = starts_edge (start_of r) src w ∙ g.start_on;
  end_on = starts_edge (end_of r) src w ∙ g.end_on;
}

good_keeps : {src : List ℕ} {lo hi : ℕ} {r : Record} (n : ℕ) → formed src ≡ Well → GoodRecord src lo hi r → r.below ≤ n → keeps src lo hi n r ≡ true
unfolding keeps
good_keeps {src} {lo} {hi} {r} n w g h = rw (g.whole, le-leb r.below n h, le-leb lo (start_of r) g.after, le-leb (end_of r) hi g.within, is_in_source src r.span (span_in w g))

-- ---- a level

module _ {src : List ℕ} (w : formed src ≡ Well) where
  along_good : (d : ℕ) → ((i : ℕ) (r : Record) (rs : List Record) → under src (suc d) i r rs ≡ fine → GoodLevel src d (start_of r) (end_of r) (take r.below rs)) →
      (k i lo hi : ℕ) (rs : List Record) → along src (under src (suc d)) k i lo hi rs ≡ fine → GoodLevel src (suc d) lo hi (drop k rs)
  unfolding along
  along_good d f k i lo hi [] e = rw drop-nil none
  along_good d f (suc k) i lo hi (r ∷ rs) e = along_good d f k (suc i) lo hi rs e
  along_good d f zero i lo hi (r ∷ rs) e =
      let a = first_of src (under src (suc d)) i lo hi r rs e in
      subst (λ (l : List Record). GoodLevel src (suc d) lo hi (r ∷ l)) (take-append-drop r.below rs)
      (more r (take r.below rs) (drop r.below rs) (good_record w a.kept) (length-take-le r.below rs a.kept.fewer) (f i r rs a.below) (along_good d f r.below (suc i) (end_of r) hi rs a.behind))

  pub level_good : (d i lo hi : ℕ) (rs : List Record) → level src d 0 i lo hi rs ≡ fine → GoodLevel src d lo hi rs
  level_good zero i lo hi [] e = none
  level_good zero i lo hi (r ∷ rs) e =
      let a = first_of src (under src 0) i lo hi r rs (sym (level_along src 0 0 i lo hi (r ∷ rs)) ∙ e) in
      let z : ◌≡◌ {A = ℕ} 0 1 = cc a.below in absurd (omega arith)
  level_good (suc d) i lo hi rs e = along_good d (λ i r rs e. level_good d (suc i) (start_of r) (end_of r) (take r.below rs) e) 0 i lo hi rs (sym (level_along src (suc d) 0 i lo hi rs) ∙ e)

  pub good_level : {d lo hi : ℕ} {rs : List Record} (i : ℕ) → GoodLevel src d lo hi rs → i + length rs ≤ 8192 → level src d 0 i lo hi rs ≡ fine
  unfolding along
  good_level {d} {lo} {hi} i none h = level_none src d 0 i lo hi
  good_level {lo = lo} {hi = hi} i (more {d = d} r below behind g n inner rest) h =
      let len = length-append below behind in
      let found = ap (level src d 0 (suc i) (start_of r) (end_of r)) (take_at below behind r.below n) ∙ good_level (suc i) inner (omega arith) in
      let later = along_skip src (under src (suc d)) r.below (suc i) (end_of r) hi (below ++ behind) ∙ ap (along src (under src (suc d)) 0 (suc i + r.below) (end_of r) hi) (drop_at below behind r.below n) ∙ sym (level_along src (suc d) 0 (suc i + r.below) (end_of r) hi behind) ∙ good_level (suc i + r.below) rest (omega arith) in
      level_along src (suc d) 0 i lo hi (r ∷ (below ++ behind))
      ∙ rw (lt-leb 8192 i (omega arith), good_keeps (length (below ++ behind)) w g (omega arith)) (ap₂ ◌then◌ found later)

-- ---- the whole list

is_fine : (f : Finding) (n : ℕ) (m : RecordNo) → verdict_as f n ≡ Ok m → f ≡ fine
is_fine fine n m e = refl
is_fine (bad i) n m e = let z : ◌≡◌ {A = ℕ} 0 1 = cc in absurd (omega arith)
is_fine (deep i) n m e = let z : ◌≡◌ {A = ℕ} 0 1 = cc in absurd (omega arith)

pub tree_good : {src list : List ℕ} {n : RecordNo} → formed src ≡ Well → checked src list ≡ Ok n → GoodTree src list
unfolding checked
tree_good {src} {list} {n} w e =
    let f = is_fine (level src 64 0 0 0 (length src) (records list)) (length (records list)) n e in
    record { few = omega (arith, level_few src 64 0 0 0 (length src) (records list) f zero-le (omega arith)); levels = level_good w 64 0 0 (length src) (records list) f }

pub good_tree : {src list : List ℕ} → formed src ≡ Well → GoodTree src list → checked src list ≡ Ok (record { 0 = length (records list) })
unfolding checked
good_tree {src} {list} w g = ap (λ (f : Finding). verdict_as f (length (records list))) (good_level w 0 g.levels (omega (arith, g.few)))
