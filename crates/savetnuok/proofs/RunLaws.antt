-- Runs: what a run leaves is within the bounds, the place of its refusal is a word, and the lent state may be read as the code reads it.
-- Assumes nothing.
use Rattle.std.specs.Prelude.{Ok, Err}
use mathlib.Core.Path.{◌≡◌, refl, ap, ◌∙◌}
use mathlib.Core.Bool.{Bool, true, false, ◌||◌}
use mathlib.Core.List.{List, []}
use Prim.Native.Nat.{ℕ, ◌≤◌, ◌<◌}
use native.Mathlib.Omega.{arith}
use lib.ListN.{length}
use lib.Seq.{sets, length-sets}
use lib.Dec.{ltb}
use borrow.Author.Tests.{ltb-false}
use Rattle.meaning.specs.declared.call.Call.{Call}
use Rattle.meaning.specs.declared.answer.Refusal.{Refusal}
use Rattle.meaning.specs.declared.answer.Refusal.TheVariants.{SourceLong, SourceIll, TreeBad, NoRoom, QueueFull, IndentOut, TreeDeep, WrongKind, NoRule, Finished, NoNode, BadCall}
use Rattle.meaning.specs.Answer.{Answer}
use Rattle.meaning.specs.State.{Script, State}
use Rattle.meaning.specs.Pieces.{flat}
use Rattle.meaning.specs.Outcome.{Outcome, done, refused, refuse_if}
use Rattle.meaning.specs.Calls.{if_open, step}
use Rattle.meaning.specs.Lent.{lent_state}
use Rattle.meaning.specs.Numbers.{refusal_seen, seen}
use Rattle.meaning.specs.World.{World, world, capacity, result, made}
use Rattle.meaning.specs.Plan.{Plan, nothing, make, refuse, ◌then◌, exec, zeroed, put_back, answer_of, ready, run}
use Rattle.meaning.proofs.Step.{fair}
use Rattle.meaning.proofs.Plans.{sticky}
use Rattle.meaning.proofs.Kept.{Bounded}
use Rattle.entry.specs.Served.{state_of}
use Rattle.rules.proofs.Tame.{ByRecord, Tame}
use Rattle.wire.specs.Words.{word_at}
use Rattle.wire.specs.StateBytes.{state_in}
use Rattle.wire.specs.CodeState.{code_state}
use Rattle.packing.specs.Places.{refusal_place, place_word}
use Rattle.savetnuok.proofs.PlaceLaws.{low_indent, Placed, stops, step_placed}
use Rattle.savetnuok.proofs.ReadLaws.{early, tests, fifth, Agree, agree_both}

-- ---- along a plan

-- the place of a refusal of its own
own_placed : (indent : ℕ) (r : Refusal) → ByRecord r → (refusal_seen r).place ≡ refusal_place indent r
own_placed indent SourceLong h = absurd h
own_placed indent (SourceIll p) h = absurd h
own_placed indent (TreeBad k) h = refl
own_placed indent (NoRoom n) h = absurd h
own_placed indent (QueueFull k) h = refl
own_placed indent (IndentOut n) h = absurd h
own_placed indent (TreeDeep k) h = refl
own_placed indent (WrongKind k) h = refl
own_placed indent (NoRule k) h = refl
own_placed indent (Finished n) h = absurd h
own_placed indent (NoNode k) h = refl
own_placed indent (BadCall p) h = absurd h

-- so far nothing was refused and the state is within the bounds; or the refusal's place is its word
data Within (indent cap : ℕ) : Answer → World → Type 0 where
  goes : {w : World} → capacity w ≡ cap → Bounded cap w.state → Within indent cap (Ok tt) w
  ends : {r : Refusal} {w : World} → (refusal_seen r).place ≡ refusal_place indent r → Within indent cap (Err r) w

place_of : {indent : ℕ} {r : Refusal} → Placed indent (refused r) → (refusal_seen r).place ≡ refusal_place indent r
place_of (stops e) = e

module _ (x : Script) (indent cap : ℕ) (fits : cap ≤ 0xFFFFFFFF) where
  made_within : (w : World) (c : Call) → capacity w ≡ cap → Bounded cap w.state → (o : Outcome) → step x (capacity w) w.state c ≡ o → Within indent cap (made w o).answer (made w o).left
  made_within w c l b (done s ps) e =
      let f = fair x (capacity w) c e in
      goes {w = world s (sets w.buffer w.state.len (flat ps))} (length-sets w.buffer w.state.len (flat ps) ∙ l) (record { fits = omega (arith, f.fits (omega (arith, b.fits))); room = f.room b.room; level = f.level b.level })
  made_within w c l b (refused r) e = ends (place_of (rw e at (step_placed x (capacity w) w.state (omega (arith, b.fits)) (low_indent indent b.level) c)))

  exec_within : (p : Plan) → Tame p → (a : Answer) (w : World) → Within indent cap a w → Within indent cap (exec x p (result a w)).answer (exec x p (result a w)).left
  unfolding exec
  exec_within nothing t a w h = h
  exec_within (make c) t (Ok tt) w (goes l b) = made_within w c l b (step x (capacity w) w.state c) refl
  exec_within (make c) t (Err r) w h = h
  exec_within (refuse r) t (Ok tt) w h = ends (own_placed indent r t)
  exec_within (refuse r) t (Err q) w h = h
  exec_within (p then q) t a w h = exec_within q t.1 (exec x p (result a w)).answer (exec x p (result a w)).left (exec_within p t.0 a w h)

-- ---- a run's start

or_left : (a b : Bool) → a || b ≡ false → a ≡ false
or_left true b e = e
or_left false b e = refl

refuse_within : {indent cap : ℕ} {w : World} (t : Bool) (r : Refusal) (o : Outcome) → (t ≡ true → (refusal_seen r).place ≡ refusal_place indent r) → (t ≡ false → Within indent cap (answer_of o) w)
    → Within indent cap (answer_of (refuse_if t r o)) w
unfolding refuse_if
refuse_within true r o e k = ends (e refl)
refuse_within false r o e k = k refl

module _ (x : Script) (w : World) (small : w.state.len < 0x100000000) where
  ready_within : (a : Answer) → (seen a).place ≡ place_word w.state.indent a → Within w.state.indent (capacity w) (ready a x w) w
  unfolding ready lent_state
  ready_within (Ok tt) e =
      refuse_within _ _ _ (λ _. omega arith) λ f.
      refuse_within _ _ _ (λ _. refl) λ g.
      refuse_within _ _ _ (λ d. rw d) λ h.
      refuse_within _ _ _ (λ _. omega arith) λ _.
      goes refl (record { fits = ltb-false (capacity w) w.state.len f; room = ltb-false 256 (length w.state.queue) (or_left _ _ g); level = ltb-false 64 w.state.indent h })
  ready_within (Err r) e = ends e

  -- ---- its end

  back_placed : {indent cap : ℕ} (a : Answer) (w₁ : World) → Within indent cap a w₁ → (seen (put_back w (result a w₁)).answer).place ≡ place_word indent (put_back w (result a w₁)).answer
  back_placed (Ok tt) w₁ h = refl
  back_placed (Err r) w₁ (ends e) = e

  back_bounded : {indent cap : ℕ} (a : Answer) (w₁ : World) → Within indent cap a w₁ → (put_back w (result a w₁)).answer ≡ Ok tt → Bounded cap (put_back w (result a w₁)).left.state
  back_bounded (Ok tt) w₁ (goes l b) e = b
  back_bounded (Err r) w₁ h e = let z : ◌≡◌ {A = ℕ} 0 1 = cc in absurd (omega arith)

  module _ (a : Answer) (e : (seen a).place ≡ place_word w.state.indent a) (fits : capacity w ≤ 0xFFFFFFFF) (p : Plan) (tame : Tame p) where
    pub run_placed : (seen (run a x w p).answer).place ≡ place_word w.state.indent (run a x w p).answer
    unfolding run
    run_placed = back_placed _ _ (exec_within x w.state.indent (capacity w) fits p tame (ready a x w) w (ready_within a e))

    pub run_bounded : (run a x w p).answer ≡ Ok tt → Bounded (capacity w) (run a x w p).left.state
    unfolding run
    run_bounded d = back_bounded _ _ (exec_within x w.state.indent (capacity w) fits p tame (ready a x w) w (ready_within a e)) d

-- ---- the state that the engine is handed

module _ (x : Script) (s : State) (b : List ℕ) (h : fifth x s || ltb 64 s.indent ≡ true) where
  ready_early : (a : Answer) → ready a x (world s b) ≡ Err (early a (ltb (length b) s.len) (fifth x s) s.len s.indent)
  unfolding ready lent_state
  ready_early (Ok tt) = ap answer_of (tests (ltb (length b) s.len) (fifth x s) (ltb 64 s.indent) s.len s.indent (if_open s (done s [])) h)
  ready_early (Err r) = refl

  run_early : (a : Answer) (p : Plan) → run a x (world s b) p ≡ result (Err (early a (ltb (length b) s.len) (fifth x s) s.len s.indent)) (world s (zeroed s.len b))
  unfolding run
  run_early a p = rw (ready_early a, sticky x p _ (world s b))

pub agree_run : (a : Answer) (x : Script) (st b : List ℕ) (p : Plan) → word_at st 0 < 0x100000000 → length b ≤ 0xFFFFFFFF → (seen a).place ≡ place_word (word_at st 4) a → Tame p
    → Agree (word_at st 4) (run a x (world (state_in st) b) p) (run a x (world (state_of (code_state st)) b) p)
unfolding state_in
agree_run a x st b p small fits e tame =
    agree_both a x st b (λ (s : State). run a x (world s b) p) (λ (n : ℕ). zeroed n b) (λ s h. run_early x s b h a p) small e (run_placed x (world (state_in st) b) small a e fits p tame)
