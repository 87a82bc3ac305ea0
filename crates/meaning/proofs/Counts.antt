-- A run that goes counts as its calls: made one by one, they leave what it leaves. Assumes nothing.
use Rattle.std.specs.Prelude.{Ok, Err}
use mathlib.Core.Path.{◌≡◌, refl, ap, ◌∙◌}
use Prim.Native.Nat.{ℕ}
use native.Mathlib.Omega.{arith}
use mathlib.Core.List.{List, [], ◌∷◌, ◌++◌, map}
use lib.Seq.{sets, length-sets}
use Rattle.meaning.specs.declared.call.Call.{Call}
use Rattle.meaning.specs.Answer.{Answer}
use Rattle.meaning.specs.State.{Script, State}
use Rattle.meaning.specs.Pieces.{Piece, flat}
use Rattle.meaning.specs.Outcome.{done}
use Rattle.meaning.specs.Calls.{step}
use Rattle.meaning.specs.Lent.{serve}
use Rattle.meaning.specs.World as World
use Rattle.meaning.specs.World.{World, world, capacity, result, call}
use Rattle.meaning.specs.Plan.{Plan, calls_of, exec, put_back, ready, run}
use Rattle.meaning.specs.History.{Event, a_call, happens, after}
use Rattle.meaning.specs.Demand3.{SpansInside, Opens}
use Rattle.meaning.proofs.Laws.{map_append}
use Rattle.meaning.proofs.Steps.{nil, go, Sound, sound_from}
use Rattle.meaning.proofs.Plans.{OnRun, on_done, on_refused, Kept, exec_on}
use Rattle.meaning.proofs.Demand3.{sound, same_size}
use Rattle.meaning.proofs.Lent.{sound_lent, last}

module _ (x : Script) (g : SpansInside x.source x.tree) where
  after_append : (w : World) (es fs : List Event) → after (Ok tt) x w (es ++ fs) ≡ after (Ok tt) x (after (Ok tt) x w es) fs
  unfolding after
  after_append w [] fs = refl
  after_append w (e ∷ es) fs = after_append (happens (Ok tt) x w e).left es fs

  -- the calls one by one lead from w to w', which passes the checks on what is lent
  record OneByOne (w : World) (cs : List Call) (w' : World) : Type 0 where
    same : after (Ok tt) x w (map a_call cs) ≡ w'
    good : Sound x.source (capacity w') w'.state

  call_left : (w : World) (c : Call) {s : State} {ps : List Piece} → Sound x.source (capacity w) w.state → step x (capacity w) w.state c ≡ done s ps
      → after (Ok tt) x w (a_call c ∷ []) ≡ world s (sets w.buffer w.state.len (flat ps))
  unfolding after call serve
  call_left w c h e = ap (λ o. (World.made w o).left) (sound_lent x (capacity w) w.state h _ ∙ e)

  kept : (w : World) → Kept x (OneByOne w)
  kept w cs w₁ c s ps q e = record {
    same = ap (after (Ok tt) x w) (map_append a_call cs (c ∷ [])) ∙ after_append w (map a_call cs) _ ∙ ap (λ v. after (Ok tt) x v (a_call c ∷ [])) q.same ∙ call_left w₁ c q.good e;
    good = rw (length-sets w₁.buffer w₁.state.len (flat ps)) (sound_from x (capacity w₁) g (go c e nil) q.good);
  }

  begun : (w : World) (a : Answer) → Sound x.source (capacity w) w.state → OnRun x (OneByOne w) [] a w
  unfolding after
  begun w (Ok tt) h = on_done (record { same = refl; good = h })
  begun w (Err r) h = on_refused

  back : (w : World) (cs : List Call) (a : Answer) (w₁ : World) → OnRun x (OneByOne w) cs a w₁ → (put_back w (result a w₁)).answer ≡ Ok tt
      → after (Ok tt) x w (map a_call cs) ≡ (put_back w (result a w₁)).left
  back w cs a w₁ (on_done q) e = q.same
  back w cs a w₁ on_refused e = let z : ◌≡◌ {A = ℕ} 0 1 = cc in absurd (omega arith)

  run_from : (w : World) (p : Plan) → Sound x.source (capacity w) w.state → (run (Ok tt) x w p).answer ≡ Ok tt
      → after (Ok tt) x w (map a_call (calls_of p)) ≡ (run (Ok tt) x w p).left
  unfolding run
  run_from w p h e =
      let q = exec x p (result (ready (Ok tt) x w) w) in
      back w (calls_of p) q.answer q.left (exec_on x (OneByOne w) (kept w) p _ (begun w (ready (Ok tt) x w) h)) e

pub run_counts_as_calls : (x : Script) → Opens x → (buf : List ℕ) (es : List Event) (p : Plan) → (run (Ok tt) x (last x buf es) p).answer ≡ Ok tt
    → after (Ok tt) x (last x buf es) (map a_call (calls_of p)) ≡ (run (Ok tt) x (last x buf es) p).left
run_counts_as_calls x o buf es p e = run_from x o.spans_inside (last x buf es) p (rw (same_size (Ok tt) x o buf es) (sound (Ok tt) x o buf es)) e
