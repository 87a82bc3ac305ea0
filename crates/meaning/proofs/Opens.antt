-- A source and a tree that opening lets in are what demand 3 asks for. Assumes nothing.
use mathlib.Core.Path.{◌≡◌, refl}
use Prim.Native.Nat.{ℕ, zero, suc}
use native.Mathlib.Omega.{arith}
use mathlib.Core.Bool.{Bool, true, false, cond, ◌&&◌}
use mathlib.Core.List.{List, [], ◌∷◌, ◌++◌}
use lib.Dec.{leb}
use lib.ListN.{length, take, drop}
use lib.ListN.{take-append-drop}
use Rattle.std.specs.Prelude.{Ok, Err}
use Rattle.text.specs.Source.{Checked}
use Rattle.text.specs.Source as source-check
use Rattle.text.specs.Chars.{in_source}
use Rattle.tree.specs.declared.record.Record.{Record}
use Rattle.tree.specs.declared.record.RecordNo.{RecordNo}
use Rattle.tree.specs.Records.{start_of, end_of, records}
use Rattle.opening.specs.Check.{Finding, fine, bad, deep, ◌then◌, keeps, along, level, Verdict, verdict_as, checked}
use Rattle.opening.specs.Opening.{of_source, opened}
use Rattle.meaning.specs.Opening.{script_in, answer_to, opening}
use Rattle.meaning.specs.World as World
use Rattle.meaning.specs.History.{Event, after, went}
use Rattle.meaning.specs.Demand3.{SpansInside, Opens, Demand3}
use Rattle.meaning.proofs.Demand3.{demand3}

and_r : (a b : Bool) → a && b ≡ true → b ≡ true
and_r true b e = e
and_r false b e = let z : ◌≡◌ {A = ℕ} 0 1 = cc in absurd (omega arith)

-- ---- a level where nothing is wrong has every span in the source

kept_inside : (src : List ℕ) (lo hi n : ℕ) (r : Record) → keeps src lo hi n r ≡ true → in_source src r.span ≡ true
unfolding keeps
kept_inside src lo hi n r e = and_r (leb (end_of r) hi) _ (and_r (leb lo (start_of r)) _ (and_r (leb r.below n) _ (and_r r.whole _ e)))

spans_append : (src : List ℕ) (rs qs : List Record) → SpansInside src rs → SpansInside src qs → SpansInside src (rs ++ qs)
spans_append src [] qs h g = g
spans_append src (r ∷ rs) qs h g = (h.0, spans_append src rs qs h.1 g)

fine_then : (f g : Finding) → (f then g) ≡ fine → (f ≡ fine) × (g ≡ fine)
fine_then fine g e = (refl, e)
fine_then (bad i) g e = let z : ◌≡◌ {A = ℕ} 0 1 = cc in absurd (omega arith)
fine_then (deep i) g e = let z : ◌≡◌ {A = ℕ} 0 1 = cc in absurd (omega arith)

module _ (src : List ℕ) (under : ℕ → Record → List Record → Finding) (below : (i : ℕ) (r : Record) (rs : List Record) → under i r rs ≡ fine → SpansInside src (take r.below rs)) where
  -- the record itself, then those below it, then those behind
  here : (i lo hi : ℕ) (r : Record) (rs : List Record) → (along src under r.below (suc i) (end_of r) hi rs ≡ fine → SpansInside src (drop r.below rs))
      → (many kept : Bool) → keeps src lo hi (length rs) r ≡ kept → cond many (bad 8192) (cond kept (under i r rs then along src under r.below (suc i) (end_of r) hi rs) (bad i)) ≡ fine
      → SpansInside src (r ∷ rs)
  here i lo hi r rs behind true kept k e = let z : ◌≡◌ {A = ℕ} 0 1 = cc in absurd (omega arith)
  here i lo hi r rs behind false false k e = let z : ◌≡◌ {A = ℕ} 0 1 = cc in absurd (omega arith)
  here i lo hi r rs behind false true k e =
      let f = fine_then (under i r rs) _ e in
      (kept_inside src lo hi (length rs) r k, rw (take-append-drop r.below rs) at (spans_append src (take r.below rs) (drop r.below rs) (below i r rs f.0) (behind f.1)))

  along_inside : (k i lo hi : ℕ) (rs : List Record) → along src under k i lo hi rs ≡ fine → SpansInside src (drop k rs)
  unfolding along
  along_inside zero i lo hi [] e = tt
  along_inside (suc k) i lo hi [] e = tt
  along_inside (suc k) i lo hi (r ∷ rs) e = along_inside k (suc i) lo hi rs e
  along_inside zero i lo hi (r ∷ rs) e = here i lo hi r rs (along_inside r.below (suc i) (end_of r) hi rs) (leb 8192 i) (keeps src lo hi (length rs) r) refl e

level_inside : (src : List ℕ) (d k i lo hi : ℕ) (rs : List Record) → level src d k i lo hi rs ≡ fine → SpansInside src (drop k rs)
unfolding level
level_inside src zero = along_inside src _ (λ i r rs e. let z : ◌≡◌ {A = ℕ} 0 1 = cc in absurd (omega arith))
level_inside src (suc d) = along_inside src _ (λ i r rs e. level_inside src d 0 (suc i) (start_of r) (end_of r) (take r.below rs) e)

-- ---- opening

tree_inside : (src list : List ℕ) (n : RecordNo) → checked src list ≡ Ok n → SpansInside src (records list)
unfolding checked
tree_inside src list n e = go (level src 64 0 0 0 (length src) (records list)) refl e
  where
    go : (f : Finding) → level src 64 0 0 0 (length src) (records list) ≡ f → verdict_as f (length (records list)) ≡ Ok n → SpansInside src (records list)
    go fine l e = level_inside src 64 0 0 0 (length src) (records list) l
    go (bad i) l e = let z : ◌≡◌ {A = ℕ} 0 1 = cc in absurd (omega arith)
    go (deep i) l e = let z : ◌≡◌ {A = ℕ} 0 1 = cc in absurd (omega arith)

pub opening_opens : (src list : List ℕ) → opening src list ≡ Ok tt → Opens (script_in src list)
unfolding opened
opening_opens src list e = go (source-check.checked src) (checked src list) refl refl e
  where
    go : (c : Checked) (v : Verdict) → source-check.checked src ≡ c → checked src list ≡ v → answer_to (of_source c v) ≡ Ok tt → Opens (script_in src list)
    go (Ok u) (Ok n) p q e = record { source_good = p; spans_inside = tree_inside src list n q }
    go (Ok u) (Err f) p q e = let z : ◌≡◌ {A = ℕ} 0 1 = cc in absurd (omega arith)
    go (Err f) v p q e = let z : ◌≡◌ {A = ℕ} 0 1 = cc in absurd (omega arith)

-- demand 3 of bytes that opening lets in
pub demand3_opened : (src list : List ℕ) → opening src list ≡ Ok tt → (buf : List ℕ) (es : List Event)
    → Demand3 (script_in src list) (went (Ok tt) (script_in src list) (World.opened buf) es) (after (Ok tt) (script_in src list) (World.opened buf) es)
demand3_opened src list e buf es = demand3 (Ok tt) (script_in src list) (opening_opens src list e) buf es
