-- In a history the checks on what is lent refuse nothing. Assumes nothing.
use Rattle.std.specs.Prelude.{Ok}
use mathlib.Core.Path.{◌≡◌, refl, ap, ◌∙◌}
use Prim.Native.Nat.{ℕ}
use mathlib.Core.Bool.{false}
use mathlib.Core.List.{List, [], ◌∷◌, map}
use lib.ListN.{length}
use borrow.Author.Tests.{le-ltb}
use Rattle.meaning.specs.declared.call.Call.{Call}
use Rattle.meaning.specs.State.{Script, Comment, note_of, State}
use Rattle.meaning.specs.Outcome.{Outcome, done}
use Rattle.meaning.specs.Calls.{if_open, step}
use Rattle.meaning.specs.CallRecord.{decode, asked}
use Rattle.meaning.specs.Lent.{any_outside, lent_state, lent, serve, serve_record}
use Rattle.meaning.specs.World.{World, opened, capacity}
use Rattle.meaning.specs.Plan.{answer_of, ready}
use Rattle.meaning.specs.History.{Event, after}
use Rattle.meaning.specs.Demand3.{Opens}
use Rattle.meaning.proofs.Laws.{goes}
use Rattle.meaning.proofs.Clean.{Inside, a_note}
use Rattle.meaning.proofs.Steps.{Sound}
use Rattle.meaning.proofs.Demand3.{sound, same_size}

none_outside : (src : List ℕ) (q : List Comment) → Inside src (map note_of q) → any_outside src q ≡ false
none_outside src [] g = refl
none_outside src (c ∷ cs) (a_note h r) = rw h (none_outside src cs r)

pub sound_lent : (x : Script) (cap : ℕ) (s : State) → Sound x.source cap s → (o : Outcome) → lent (Ok tt) x cap s o ≡ o
unfolding lent_state
sound_lent x cap s h o =
    goes _ _ _ (le-ltb cap s.len h.fits)
    ∙ goes _ _ _ (rw (le-ltb 256 (length s.queue) h.room) (none_outside x.source s.queue h.inside))
    ∙ goes _ _ _ (le-ltb 64 s.indent h.level)

-- the world behind a history over an opened script
abbrev pub last : Script → List ℕ → List Event → World
last x buf es = after (Ok tt) x (opened buf) es

module _ (x : Script) (opens : Opens x) (buf : List ℕ) (es : List Event) where
  pub lent_never_refuses : (o : Outcome) → lent (Ok tt) x (capacity (last x buf es)) (last x buf es).state o ≡ o
  lent_never_refuses o = rw (same_size (Ok tt) x opens buf es) (sound_lent x (length buf) (last x buf es).state (sound (Ok tt) x opens buf es) o)

  -- so a call there does what its steps do, a call record what its call does, and a run begins unless the engine is finished
  pub serve_is_step : (c : Call) → serve (Ok tt) x (capacity (last x buf es)) (last x buf es).state c ≡ step x (capacity (last x buf es)) (last x buf es).state c
  unfolding serve
  serve_is_step c = lent_never_refuses _

  pub record_is_asked : (p : ℕ) (bytes : List ℕ)
      → serve_record (Ok tt) x (capacity (last x buf es)) (last x buf es).state p bytes
      ≡ asked p (decode bytes) (step x (capacity (last x buf es)) (last x buf es).state)
  unfolding serve_record
  record_is_asked p bytes = lent_never_refuses _

  pub ready_is_open : ready (Ok tt) x (last x buf es) ≡ answer_of (if_open (last x buf es).state (done (last x buf es).state []))
  unfolding ready
  ready_is_open = ap answer_of (lent_never_refuses _)
