-- A call record that goes leaves a state within the bounds that 4, 5 and 6 check, whatever state was lent. Assumes nothing.
use Rattle.std.specs.Prelude.{Ok, Err}
use mathlib.Core.Path.{◌≡◌, refl}
use Prim.Native.Nat.{ℕ, ◌≤◌}
use native.Mathlib.Omega.{arith}
use mathlib.Core.Bool.{Bool, true, false, ◌||◌}
use mathlib.Core.List.{List}
use mathlib.Core.Option.{Option, none, some}
use lib.ListN.{length}
use borrow.Author.Tests.{ltb-false}
use Rattle.meaning.specs.declared.call.Call.{Call}
use Rattle.meaning.specs.declared.answer.Refusal.TheVariants.{BadCall}
use Rattle.meaning.specs.Answer.{Answer}
use Rattle.meaning.specs.State.{Script, State}
use Rattle.meaning.specs.Outcome.{Outcome, done, refused}
use Rattle.meaning.specs.Calls.{step}
use Rattle.meaning.specs.CallRecord.{decode, asked}
use Rattle.meaning.specs.Lent.{lent_state, lent, serve_record}
use Rattle.meaning.specs.World.{World, capacity, made, call_record}
use Rattle.meaning.proofs.Laws.{OnDone, is_refused, of_done, on_refuse, on_any}
use Rattle.meaning.proofs.Step.{fair}
use Rattle.meaning.proofs.Histories.{lent_done}

pub record Bounded (cap : ℕ) (s : State) : Type 0 where
  pub fits : s.len ≤ cap
  pub room : length s.queue ≤ 256
  pub level : s.indent ≤ 64

or_left : (a b : Bool) → a || b ≡ false → a ≡ false
or_left true b e = e
or_left false b e = refl

lent_bounded : (opening : Answer) (x : Script) (cap : ℕ) (s : State) (o : Outcome) → OnDone (λ _ _. Bounded cap s) (lent opening x cap s o)
unfolding lent_state
lent_bounded (Ok tt) x cap s o =
    on_refuse _ _ λ f. on_refuse _ _ λ g. on_refuse _ _ λ h.
    on_any o (record { fits = ltb-false cap s.len f; room = ltb-false 256 (length s.queue) (or_left _ _ g); level = ltb-false 64 s.indent h })
lent_bounded (Err r) x cap s o = is_refused

module _ (opening : Answer) (x : Script) (w : World) where
  made_bounded : (d : Option Call) (o : Outcome) → lent opening x (capacity w) w.state (asked 0 d (step x (capacity w) w.state)) ≡ o
      → (made w o).answer ≡ Ok tt → Bounded (capacity w) (made w o).left.state
  made_bounded d (refused r) e a = let z : ◌≡◌ {A = ℕ} 0 1 = cc in absurd (omega arith)
  made_bounded none (done s ps) e a = let n : refused (BadCall 0) ≡ done s ps = lent_done opening x (capacity w) w.state _ e in let z : ◌≡◌ {A = ℕ} 0 1 = cc in absurd (omega arith)
  made_bounded (some c) (done s ps) e a =
      let b : Bounded (capacity w) w.state = of_done (rw e at (lent_bounded opening x (capacity w) w.state (step x (capacity w) w.state c))) in
      let f = fair x (capacity w) c (lent_done opening x (capacity w) w.state _ e) in
      record { fits = f.fits b.fits; room = f.room b.room; level = f.level b.level }

  pub record_bounded : (bytes : List ℕ) → (call_record opening x w bytes).answer ≡ Ok tt → Bounded (capacity w) (call_record opening x w bytes).left.state
  unfolding call_record serve_record
  record_bounded bytes a = made_bounded (decode bytes) _ refl a
