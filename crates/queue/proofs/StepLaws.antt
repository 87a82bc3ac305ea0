-- Steps from a result on: a refusal stays, and an open engine goes on. Assumes nothing.
use Rattle.std.specs.Prelude.{Ok, Err}
use Rattle.text.proofs.Base.{◌≡◌, refl, sym, ◌∙◌, Bool, true, false, List, ℕ, arith, length, leb, ltb}
use Rattle.tree.specs.declared.record.RecordNo.{RecordNo}
use Rattle.meaning.specs.{declared.call.Call.Call, declared.answer.Refusal.Refusal, declared.answer.Refusal.TheVariants.Finished}
use Rattle.meaning.specs.{declared.answer.Refusal.TheVariants.NoNode, declared.answer.Refusal.TheVariants.NoRoom, Answer.Answer}
use Rattle.meaning.specs.{State.Script, State.State}
use Rattle.meaning.specs.{Pieces.Piece, Pieces.Emit, Outcome.Outcome, Outcome.done, Outcome.refuse_if, Calls.act, Calls.no_node, Calls.a_node}
use Rattle.meaning.specs.{Calls.named_by, Calls.if_there, Calls.step, World.World, World.world, World.capacity, World.Result, World.result, World.made}
use Rattle.meaning.specs.{Plan.make, Plan.go_on, Plan.exec}
use Rattle.lent.specs.{declared.formatter.Formatter.Formatter, Run.is_refused, Run.ready_answer, Run.ready_run, Run.present_answer, Run.present_run}
use Rattle.lent.specs.{View.view, View.result_of}
use Rattle.queue.specs.{Parts.onward, Parts.settles}

-- ---- open or stopped

pub open_steps : (f : ℕ → State → Outcome) (a : Answer) (w : World) → a ≡ Ok tt → onward f (result a w) ≡ made w (f (capacity w) w.state)
unfolding onward
open_steps f a w h = rw h

stays : (a : Answer) (w : World) (k : World → Result) → is_refused a ≡ true → go_on a w k ≡ result a w
stays (Ok tt) w k h = let z : ◌≡◌ {A = ℕ} 0 1 = cc in absurd (omega arith)
stays (Err e) w k h = refl

pub stopped_steps : (f : ℕ → State → Outcome) (a : Answer) (w : World) → is_refused a ≡ true → result a w ≡ onward f (result a w)
unfolding onward
stopped_steps f a w h = sym (stays a w _ h)

-- ---- a change of the state behind such steps

unfoldable pub then_state : (State → State) → Result → Result
then_state f r = go_on r.answer r.left (λ w. result (Ok tt) (world (f w.state) w.buffer))

pub then_stopped : (f : State → State) (a : Answer) (w : World) → is_refused a ≡ true → result a w ≡ then_state f (result a w)
unfolding then_state
then_stopped f a w h = sym (stays a w _ h)

pub then_open : (f : State → State) (a : Answer) (w : World) → a ≡ Ok tt → then_state f (result a w) ≡ result a (world (f w.state) w.buffer)
unfolding then_state
then_open f a w h = rw h

on_room : (t : Bool) (r : Refusal) (w : World) (u : State) (ps : List Piece) (f : State → State)
    → made w (refuse_if t r (done (f u) ps)) ≡ then_state f (made w (refuse_if t r (done u ps)))
unfolding refuse_if then_state
on_room true r w u ps f = refl
on_room false r w u ps f = refl

pub settle_then : (e : State → Emit) (f : State → State) (a : Answer) (w : World)
    → onward (λ cap s. settles cap s (e s) f) (result a w) ≡ then_state f (onward (λ cap s. settles cap s (e s) (λ s'. s')) (result a w))
unfolding onward then_state
settle_then e f (Ok tt) w = on_room (ltb (capacity w) (e w.state).state.len) (NoRoom w.state.len) w (e w.state).state (e w.state).out f
settle_then e f (Err r) w = refl

-- ---- 10, then 11, before the steps of a call

ready_at : (t : Bool) (n : ℕ) (w : World) (k : World → Result) (o : Outcome) → k w ≡ made w o → made w (refuse_if t (Finished n) o) ≡ go_on (ready_answer (Ok tt) t n) w k
unfolding refuse_if
ready_at true n w k o e = refl
ready_at false n w k o e = sym e

there_at : (t : Bool) (i : RecordNo) (w : World) (k : World → Result) (o : Outcome) → k w ≡ made w o → made w (refuse_if t (NoNode i) o) ≡ go_on (present_answer (Ok tt) t i) w k
unfolding refuse_if
there_at true i w k o e = refl
there_at false i w k o e = sym e

module _ (x : Script) (c : Call) where
  opening_steps : (a : Answer) (w : World) → go_on a w (λ v. made v (step x (capacity v) v.state c)) ≡ go_on (ready_answer a w.state.finished w.state.len) w (λ v. made v (if_there x (named_by c) (act x (capacity v) v.state c)))
  unfolding step
  opening_steps (Ok tt) w = ready_at w.state.finished w.state.len w _ _ refl
  opening_steps (Err r) w = refl

  -- a call that names no node
  pub ready_steps : (run : Formatter) (q b : List ℕ) → named_by c ≡ no_node → exec x (make c) (result_of run q b) ≡ onward (λ cap s. act x cap s c) (result_of (ready_run run) q b)
  unfolding exec onward ready_run
  ready_steps run q b h = rw (opening_steps run.answer (world (view run q) b), h)

  present_steps : (a : Answer) (w : World) (k : RecordNo) → named_by c ≡ a_node k
      → go_on a w (λ v. made v (if_there x (named_by c) (act x (capacity v) v.state c))) ≡ go_on (present_answer a (leb (length x.tree) k.0) k) w (λ v. made v (act x (capacity v) v.state c))
  present_steps (Ok tt) w k h = rw h (there_at (leb (length x.tree) k.0) k w _ _ refl)
  present_steps (Err r) w k h = refl

  -- a call on node k
  pub present_call : (run : Formatter) (q b : List ℕ) (k : RecordNo) → named_by c ≡ a_node k
      → exec x (make c) (result_of run q b) ≡ onward (λ cap s. act x cap s c) (result_of (present_run x.tree k (ready_run run)) q b)
  unfolding exec onward ready_run present_run
  present_call run q b k h = opening_steps run.answer (world (view run q) b) ∙ present_steps (ready_answer run.answer run.finished run.len) (world (view run q) b) k h
