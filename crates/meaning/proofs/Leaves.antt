-- What calls and runs leave, whatever state and buffer are lent. Assumes nothing.
use Rattle.std.specs.Prelude.{Ok, Err}
use mathlib.Core.Path.{◌≡◌, refl, sym, ap, ◌∙◌}
use Prim.Native.Nat.{ℕ, ◌≤◌}
use native.Mathlib.Omega.{arith}
use mathlib.Core.List.{List}
use mathlib.Core.Option.{Option, none, some}
use lib.ListN.{take}
use lib.Seq.{take_at, take-take, length-take-le}
use borrow.Author.Tests.{ltb-false}
use Rattle.meaning.specs.declared.call.Call.{Call}
use Rattle.meaning.specs.declared.answer.Refusal.{Refusal}
use Rattle.meaning.specs.declared.answer.Refusal.TheVariants.{BadCall}
use Rattle.meaning.specs.Answer.{Answer}
use Rattle.meaning.specs.State.{Script, State}
use Rattle.meaning.specs.Pieces.{flat}
use Rattle.meaning.specs.Outcome.{Outcome, done, refused}
use Rattle.meaning.specs.Calls.{step}
use Rattle.meaning.specs.CallRecord.{decode, asked}
use Rattle.meaning.specs.Lent.{lent_state, lent, serve, serve_record}
use Rattle.meaning.specs.World as World
use Rattle.meaning.specs.World.{World, capacity, output, result, call, call_record}
use Rattle.meaning.specs.Plan.{Plan, exec, put_back, answer_of, ready, run}
use Rattle.meaning.specs.Leaves.{Success, RefusedRun}
use Rattle.meaning.proofs.Laws.{OnDone, is_done, is_refused, of_done, on_refuse, on_any}
use Rattle.meaning.proofs.Steps.{pieces}
use Rattle.meaning.proofs.Buffers.{zeroed_length, zeroed_below, zeroed_beyond}
use Rattle.meaning.proofs.Plans.{sticky, OnRun, on_done, on_refused}
use Rattle.meaning.proofs.Histories.{Traced, Grown, Reached, lent_done, traced_call, grown_call, run_on}

-- ---- what is not refused has passed check 4

lent_fits : (opening : Answer) (x : Script) (cap : ℕ) (s : State) (o : Outcome) → OnDone (λ _ _. s.len ≤ cap) (lent opening x cap s o)
unfolding lent_state
lent_fits (Ok tt) x cap s o = on_refuse _ _ λ f. on_refuse _ _ λ _. on_refuse _ _ λ _. on_any o (ltb-false cap s.len f)
lent_fits (Err r) x cap s o = is_refused

answer_done : {A : Type 0} (o : Outcome) → OnDone (λ _ _. A) o → answer_of o ≡ Ok tt → A
answer_done o (is_done h) e = h
answer_done o is_refused e = let z : ◌≡◌ {A = ℕ} 0 1 = cc in absurd (omega arith)

-- ---- a success

below_from : (x : Script) {w w' : World} {cs : List Call} → w.state.len ≤ capacity w → Traced x w cs w' → Grown w w' → Success w w'
below_from x {w} {w'} h t g = record {
  size = t.size;
  below =
      sym (take-take w.state.len w'.state.len w'.buffer g.longer)
      ∙ ap (take w.state.len) t.output_is
      ∙ take_at (output w) (flat (pieces t.ms)) w.state.len (length-take-le w.state.len w.buffer h);
  beyond = g.beyond;
}

module _ (opening : Answer) (x : Script) (w : World) where
  made_success : (c : Call) (o : Outcome) → lent opening x (capacity w) w.state (step x (capacity w) w.state c) ≡ o → (World.made w o).answer ≡ Ok tt → Success w (World.made w o).left
  made_success c (done s ps) e a =
      let h : w.state.len ≤ capacity w = of_done (rw e at (lent_fits opening x (capacity w) w.state (step x (capacity w) w.state c))) in
      let went = lent_done opening x (capacity w) w.state _ e in
      below_from x h (traced_call x w c h went) (grown_call x w c h went)
  made_success c (refused r) e a = let z : ◌≡◌ {A = ℕ} 0 1 = cc in absurd (omega arith)

  pub call_success : (c : Call) → (call opening x w c).answer ≡ Ok tt → Success w (call opening x w c).left
  unfolding call serve
  call_success c a = made_success c _ refl a

  decoded_success : (p : Option Call) (o : Outcome) → lent opening x (capacity w) w.state (asked 0 p (step x (capacity w) w.state)) ≡ o → (World.made w o).answer ≡ Ok tt → Success w (World.made w o).left
  decoded_success none (done s ps) e a = let n : refused (BadCall 0) ≡ done s ps = lent_done opening x (capacity w) w.state _ e in let z : ◌≡◌ {A = ℕ} 0 1 = cc in absurd (omega arith)
  decoded_success none (refused r) e a = let z : ◌≡◌ {A = ℕ} 0 1 = cc in absurd (omega arith)
  decoded_success (some c) o e a = made_success c o e a

  pub record_success : (bytes : List ℕ) → (call_record opening x w bytes).answer ≡ Ok tt → Success w (call_record opening x w bytes).left
  unfolding call_record serve_record
  record_success bytes a = decoded_success (decode bytes) _ refl a

  back_success : {cs : List Call} → w.state.len ≤ capacity w → (a : Answer) (w₁ : World) → OnRun x (Reached x w) cs a w₁ → (put_back w (result a w₁)).answer ≡ Ok tt
      → Success w (put_back w (result a w₁)).left
  back_success h a w₁ (on_done q) e = below_from x h q.traced q.grown
  back_success h a w₁ on_refused e = let z : ◌≡◌ {A = ℕ} 0 1 = cc in absurd (omega arith)

  -- a run that went was let in
  run_ready : (p : Plan) (a : Answer) → (put_back w (exec x p (result a w))).answer ≡ Ok tt → a ≡ Ok tt
  run_ready p (Ok tt) e = refl
  run_ready p (Err r) e = let z : Err r ≡ Ok tt = rw (sticky x p r w) at e in z

  pub run_success : (p : Plan) → (run opening x w p).answer ≡ Ok tt → Success w (run opening x w p).left
  unfolding run ready
  run_success p e =
      let h : w.state.len ≤ capacity w = answer_done _ (lent_fits opening x (capacity w) w.state _) (run_ready p (ready opening x w) e) in
      back_success h _ _ (run_on opening x w p h _ refl) e

  -- ---- a refused call changes nothing

  made_refused : (o : Outcome) (r : Refusal) → (World.made w o).answer ≡ Err r → (World.made w o).left ≡ w
  made_refused (done s ps) r e = let z : ◌≡◌ {A = ℕ} 0 1 = cc in absurd (omega arith)
  made_refused (refused q) r e = refl

  pub call_refused : (c : Call) (r : Refusal) → (call opening x w c).answer ≡ Err r → (call opening x w c).left ≡ w
  unfolding call
  call_refused c r e = made_refused (serve opening x (capacity w) w.state c) r e

  pub record_refused : (bytes : List ℕ) (r : Refusal) → (call_record opening x w bytes).answer ≡ Err r → (call_record opening x w bytes).left ≡ w
  unfolding call_record
  record_refused bytes r e = made_refused (serve_record opening x (capacity w) w.state 0 bytes) r e

  -- ---- a refused run puts the engine back and zeroes the rest

  back_refused : (a : Answer) (w₁ : World) (r : Refusal) → (put_back w (result a w₁)).answer ≡ Err r → RefusedRun w (put_back w (result a w₁)).left
  back_refused (Ok tt) w₁ r e = let z : ◌≡◌ {A = ℕ} 0 1 = cc in absurd (omega arith)
  back_refused (Err q) w₁ r e = record {
    state = refl;
    size = zeroed_length w.state.len w.buffer;
    below = zeroed_below w.state.len w.buffer;
    zero_beyond = zeroed_beyond w.state.len w.buffer;
  }

  pub run_refused : (p : Plan) (r : Refusal) → (run opening x w p).answer ≡ Err r → RefusedRun w (run opening x w p).left
  unfolding run
  run_refused p r e = let q = exec x p (result (ready opening x w) w) in back_refused q.answer q.left r e
