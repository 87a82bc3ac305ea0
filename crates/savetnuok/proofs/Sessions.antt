-- A session through bytes is a history through states, so demand 3 holds of what it leaves. Assumes nothing.
use Rattle.std.specs.Prelude.{Ok, Err}
use mathlib.Core.Path.{◌≡◌, refl, sym, ap, subst, ◌∙◌}
use mathlib.Core.Bool.{Bool, true, false, ◌&&◌}
use mathlib.Core.List.{List, map}
use Prim.Native.Nat.{ℕ, zero, suc, ◌≤◌, ◌<◌}
use native.Mathlib.Omega.{arith}
use lib.ListN.{length, get_or, replicate}
use lib.Dec.{T, eqb}
use borrow.Author.Tests.{leb-true}
use Rattle.meaning.specs.declared.answer.Refusal.{Refusal}
use Rattle.meaning.specs.Answer.{Answer}
use Rattle.meaning.specs.State.{fresh}
use Rattle.meaning.specs.Opening.{script_in, opening}
use Rattle.meaning.specs.Numbers.{refusal_seen}
use Rattle.lent.specs.View.{slot_words, slots_of}
use Rattle.meaning.specs.World as World
use Rattle.meaning.specs.World.{World, world, capacity, Result, call_record}
use Rattle.meaning.specs.Plan.{Plan, run}
use Rattle.meaning.specs.History.{after, went}
use Rattle.meaning.specs.Demand3.{Demand3}
use Rattle.meaning.proofs.Numbers.{one_to_twelve}
use Rattle.meaning.proofs.Leaves.{record_refused, run_refused}
use Rattle.meaning.proofs.Opens.{demand3_opened}
use Rattle.wire.specs.Words.{in_bytes, word_bytes}
use Rattle.wire.specs.StateBytes.{shaped, state_in, bytes_of}
use Rattle.savetnuok.specs.Exported.{packed, then_shape, open_answer, Opened, Handed, call_result, Called, layout_of, whole_of, run_result, Laid}
use Rattle.savetnuok.specs.Session.{Turn, event_of, Session, ended, called, laid, laid_whole}
use Rattle.wire.proofs.BackLaws.{Words, reads_back, shaped_back}

-- ---- a fresh engine

zero_fit : (n i : ℕ) → get_or (replicate n 0) i 0 < 0x100000000
zero_fit zero i = omega arith
zero_fit (suc n) zero = omega arith
zero_fit (suc n) (suc i) = zero_fit n i

fresh_words : Words fresh
unfolding slots_of slot_words
fresh_words = record { fit = zero_fit 1032; few = omega arith }

-- it is all zero
pub fresh_zero : bytes_of fresh ≡ replicate 4128 0
unfolding bytes_of in_bytes word_bytes slots_of slot_words
fresh_zero = refl

-- ---- 0 is answered exactly where nothing is refused

first_holds : (a b : Bool) → T (a && b) → a ≡ true
first_holds true b h = refl
first_holds false b h = absurd h

pub zero_done : (a : Answer) → packed a ≡ 0 → a ≡ Ok tt
unfolding packed
zero_done (Ok tt) e = refl
zero_done (Err r) e = let l : 1 ≤ (refusal_seen r).number = leb-true 1 (refusal_seen r).number (first_holds _ _ (one_to_twelve r)) in absurd (omega arith)

then_done : (a : Answer) (t : Bool) → then_shape a t ≡ Ok tt → a ≡ Ok tt
then_done (Ok tt) t e = refl
then_done (Err r) t e = e

-- ---- one call, or one run of a plan

-- the bytes of state and buffer mean what is left, and have the shape that is asked
record Linked (w : World) (st b : List ℕ) : Type 0 where
  means : world (state_in st) b ≡ w
  shape : shaped st (length b) ≡ true

-- what a refusal leaves: the lent state, and a buffer of the lent length
record Kept (st b : List ℕ) (w : World) : Type 0 where
  state : w.state ≡ state_in st
  size : capacity w ≡ length b

link : (st b : List ℕ) (r : Result) {n : ℕ} {st₁ b₁ : List ℕ} → Handed st r n st₁ b₁ → shaped st (length b) ≡ true → ((q : Refusal) → r.answer ≡ Err q → Kept st b r.left) → Linked r.left st₁ b₁
link st b r {n} {st₁} {b₁} h s kept = go r.answer refl
  where
    go : (a : Answer) → r.answer ≡ a → Linked r.left st₁ b₁
    go (Ok tt) e = record { means = rw (h.reads e, h.buffer); shape = h.shape e }
    go (Err q) e =
        let k = kept q e in
        let es : st₁ ≡ st = h.state ∙ rw e in
        record { means = rw (es, h.buffer, ← k.state); shape = rw (es, h.buffer, k.size) s }

module _ (src tree : List ℕ) (opens : opening src tree ≡ Ok tt) where
  call_link : (st b bytes : List ℕ) {st₁ b₁ : List ℕ} {n : ℕ} → Called src tree st b bytes n st₁ b₁ → shaped st (length b) ≡ true
      → Linked (call_record (Ok tt) (script_in src tree) (world (state_in st) b) bytes).left st₁ b₁
  call_link st b bytes {st₁} {b₁} {n} c h =
      let q : call_result src tree st b bytes ≡ call_record (Ok tt) (script_in src tree) (world (state_in st) b) bytes = rw (opens, h) in
      link st b (call_record (Ok tt) (script_in src tree) (world (state_in st) b) bytes) (subst (λ (r : Result). Handed st r n st₁ b₁) q c) h λ r e.
      let l = record_refused (Ok tt) (script_in src tree) (world (state_in st) b) bytes r e in
      record { state = ap (λ (w : World). w.state) l; size = ap capacity l }

  run_link : (st b : List ℕ) (p : Plan) {st₁ b₁ : List ℕ} {n : ℕ} → Laid src tree st b p n st₁ b₁ → shaped st (length b) ≡ true
      → Linked (run (Ok tt) (script_in src tree) (world (state_in st) b) p).left st₁ b₁
  run_link st b p {st₁} {b₁} {n} c h =
      let q : run_result src tree st b p ≡ run (Ok tt) (script_in src tree) (world (state_in st) b) p = rw (opens, h) in
      link st b (run (Ok tt) (script_in src tree) (world (state_in st) b) p) (subst (λ (r : Result). Handed st r n st₁ b₁) q c) h λ r e.
      let l = run_refused (Ok tt) (script_in src tree) (world (state_in st) b) p r e in
      record { state = l.state; size = l.size }

  -- ---- all turns of a session

  row : {st b st' b' : List ℕ} {turns : List Turn} → Session src tree st b turns st' b' → shaped st (length b) ≡ true
      → world (state_in st') b' ≡ after (Ok tt) (script_in src tree) (world (state_in st) b) (map (event_of src tree) turns)
  unfolding after
  row ended h = refl
  row {st} {b} (called {bytes} {more} c s) h =
      let l = call_link st b bytes c h in
      row s l.shape ∙ ap (λ (w : World). after (Ok tt) (script_in src tree) w (map (event_of src tree) more)) l.means
  row {st} {b} (laid {k} {more} c s) h =
      let l = run_link st b (layout_of src tree k) c h in
      row s l.shape ∙ ap (λ (w : World). after (Ok tt) (script_in src tree) w (map (event_of src tree) more)) l.means
  row {st} {b} (laid_whole {more} c s) h =
      let l = run_link st b (whole_of src tree) c h in
      row s l.shape ∙ ap (λ (w : World). after (Ok tt) (script_in src tree) w (map (event_of src tree) more)) l.means

-- demand 3 at the level of the functions that C calls, over every history of calls, runs and layouts: from an opening that answered 0, over a buffer
-- whose length fits a word, of the state and the buffer that the session leaves
pub session_demand3 : (src tree st₀ buf : List ℕ) {st st' b' : List ℕ} {turns : List Turn} → Opened src tree st₀ 0 st → length buf ≤ 0xFFFFFFFF → Session src tree st buf turns st' b'
    → Demand3 (script_in src tree) (went (Ok tt) (script_in src tree) (World.opened buf) (map (event_of src tree) turns)) (world (state_in st') b')
session_demand3 src tree st₀ buf {st} {st'} {b'} {turns} o fits s =
    let d : open_answer src tree st₀ ≡ Ok tt = zero_done (open_answer src tree st₀) (sym o.answer) in
    let opens : opening src tree ≡ Ok tt = then_done (opening src tree) (eqb (length st₀) 4128) d in
    let e : st ≡ bytes_of fresh = o.state ∙ rw d in
    let r : world (state_in st') b' ≡ after (Ok tt) (script_in src tree) (World.opened buf) (map (event_of src tree) turns) =
    row src tree opens s (rw e (shaped_back fresh fresh_words (length buf) fits))
    ∙ ap (λ (w : World). after (Ok tt) (script_in src tree) w (map (event_of src tree) turns)) (rw (e, reads_back fresh fresh_words)) in
    rw r (demand3_opened src tree opens buf (map (event_of src tree) turns))
