-- The place of every refusal of an opening or of a call record is the word that the code names. Assumes nothing.
use Rattle.std.specs.Prelude.{Ok, Err}
use mathlib.Core.Path.{◌≡◌, refl}
use Prim.Native.Nat.{ℕ, zero, suc, ◌-◌, ◌%◌, ◌≤◌, ◌<◌, min}
use native.Mathlib.Nat.{min-eq_left, min-eq_right}
use native.Mathlib.Omega.{arith}
use mathlib.Core.Bool.{Bool, true, false, cond}
use mathlib.Core.List.{List}
use lib.ListN.{length}
use lib.Dec.{leb, ltb}
use borrow.Author.Tests.{leb-true, leb-false, le-ltb}
use mathlib.Core.Option.{Option, none, some}
use Rattle.opening.specs.Opening.{Opening}
use Rattle.std.specs.Prelude.{Ok, Err}
use Rattle.opening.specs.declared.open.Unopened.TheVariants as found
use Rattle.tree.specs.declared.record.RecordNo.{RecordNo}
use Rattle.meaning.specs.declared.call.Call.{Call}
use Rattle.meaning.specs.declared.call.Call.TheVariants.{WriteOwned, WriteRaw, Ignore, Lit, Comments, Indent, Nl, Ws, FlushWhitespace, FlushPrefixComments, Finish}
use Rattle.meaning.specs.declared.answer.Refusal.{Refusal}
use Rattle.meaning.specs.Answer.{Answer}
use Rattle.meaning.specs.declared.answer.Refusal.TheVariants.{BadCall}
use Rattle.meaning.specs.State.{Script, Comment, State}
use Rattle.meaning.specs.Pieces.{Piece, Emit}
use Rattle.meaning.specs.Outcome.{Outcome, done, refused, refuse_if}
use Rattle.meaning.specs.Collect.{Collected, full, got, collect, on_got, met_from, collected, gather, behind}
use Rattle.meaning.specs.Calls.{Shift, deeper, outer, signed, shifted, write_node, act, Named, no_node, a_node, named_by, if_there, step}
use Rattle.meaning.specs.CallRecord.{decode, asked}
use Rattle.meaning.specs.Opening.{answer_to}
use Rattle.meaning.specs.Lent.{lent_state, lent, serve_record}
use Rattle.meaning.specs.Numbers.{refusal_seen, seen}
use Rattle.meaning.specs.World.{World, made, call_record}
use Rattle.savetnuok.specs.Exported.{then_shape}
use Rattle.packing.specs.Places.{indent_place, refusal_place, place_word}

-- ---- the indent as a word

either : (t : Bool) (i : ℕ) → i ≡ cond t i i
either true i = refl
either false i = refl

-- a lent indent is its own place
own_indent : (i : ℕ) → i ≡ indent_place i i
own_indent i = either (ltb 64 i) i

-- handed on as 255 where it is larger, it is found again
pub handed_indent : (i : ℕ) → i ≡ indent_place i (min i 255)
handed_indent i = go (leb i 255) refl
  where
    go : (t : Bool) → leb i 255 ≡ t → i ≡ indent_place i (min i 255)
    go true e = let m : min i 255 ≡ i = min-eq_left (leb-true i 255 e) in rw m (own_indent i)
    go false e = let l : 255 < i = leb-false i 255 e in let m : min i 255 ≡ 255 = min-eq_right (omega arith) in rw m

-- an indent that a call may meet is the refusal's own
pub low_indent : (indent : ℕ) {i : ℕ} → i ≤ 64 → i ≡ indent_place indent i
low_indent indent {i} h = rw (le-ltb 64 i h)

-- ---- a call

-- where it is refused, the place is the word that the code names beside the lent indent
pub data Placed (indent : ℕ) : Outcome → Type 0 where
  goes : {s : State} {ps : List Piece} → Placed indent (done s ps)
  stops : {r : Refusal} → (refusal_seen r).place ≡ refusal_place indent r → Placed indent (refused r)

module _ {indent : ℕ} where
  refuse_placed : (t : Bool) (r : Refusal) {o : Outcome} → (refusal_seen r).place ≡ refusal_place indent r → Placed indent o → Placed indent (refuse_if t r o)
  unfolding refuse_if
  refuse_placed true r e p = stops e
  refuse_placed false r e p = p

  got_placed : (g : Collected) (k : ℕ → List Comment → Outcome) → ((lines : ℕ) (cs : List Comment) → Placed indent (k lines cs)) → Placed indent (on_got g k)
  got_placed (full i) k h = stops refl
  got_placed (got lines cs) k h = h lines cs

  gather_placed : (x : Script) (i : ℕ) (s : State) (next : State → Outcome) → ((s' : State) → Placed indent (next s')) → Placed indent (gather x i s next)
  unfolding gather
  gather_placed x i s next h = got_placed (collect i (256 - length s.queue) s.lines (met_from x i)) _ (λ lines cs. h (collected s lines cs))

-- from a state whose length and whose indent are their own places
module _ {indent : ℕ} (x : Script) (cap : ℕ) (s : State) (own-len : s.len ≡ s.len % 0x100000000) (own-level : s.indent ≡ indent_place indent s.indent) where
  shifted_placed : (d : Shift) → Placed indent (shifted s d)
  shifted_placed (deeper d) = refuse_placed _ _ own-level goes
  shifted_placed (outer d) = refuse_placed _ _ own-level goes

  node_placed : (k : RecordNo) (e : Emit) → Placed indent (write_node x cap k s e)
  node_placed k e = refuse_placed _ _ own-len (gather_placed x (behind x k) e.state _ (λ s'. goes))

  act_placed : (c : Call) → Placed indent (act x cap s c)
  unfolding act
  act_placed (WriteOwned k) = node_placed k _
  act_placed (WriteRaw k) = node_placed k _
  act_placed (Ignore k) = gather_placed x (behind x k) s _ (λ s'. goes)
  act_placed (Lit t) = refuse_placed _ _ own-len goes
  act_placed (Comments h) = refuse_placed _ _ own-len goes
  act_placed (Indent d) = shifted_placed (signed d)
  act_placed (Nl zero) = goes
  act_placed (Nl (suc n)) = refuse_placed _ _ own-len goes
  act_placed Ws = refuse_placed _ _ own-len goes
  act_placed (FlushWhitespace preserve) = refuse_placed _ _ own-len goes
  act_placed FlushPrefixComments = gather_placed x 0 s _ (λ s'. refuse_placed _ _ own-len goes)
  act_placed Finish = refuse_placed _ _ own-len goes

  there_placed : (n : Named) {o : Outcome} → Placed indent o → Placed indent (if_there x n o)
  there_placed no_node p = p
  there_placed (a_node k) p = refuse_placed _ _ refl p

  asked_placed : (d : Option Call) → Placed indent (asked 0 d (step x cap s))
  unfolding step
  asked_placed none = stops {r = BadCall 0} refl
  asked_placed (some c) = refuse_placed _ _ own-len (there_placed (named_by c) (act_placed c))

  pub step_placed : (c : Call) → Placed indent (step x cap s c)
  step_placed c = asked_placed (some c)

  lent_placed : (a : Answer) {k : Outcome} → (seen a).place ≡ place_word indent a → Placed indent k → Placed indent (lent a x cap s k)
  unfolding lent_state
  lent_placed (Ok tt) e p = refuse_placed _ _ own-len (refuse_placed _ _ refl (refuse_placed _ _ own-level p))
  lent_placed (Err r) e p = stops e

made_placed : {indent : ℕ} (w : World) (o : Outcome) → Placed indent o → (seen (made w o).answer).place ≡ place_word indent (made w o).answer
made_placed w (done s ps) p = refl
made_placed w (refused r) (stops e) = e

-- what a call record answers behind the answer a of the first checks
pub record_placed : (a : Answer) (x : Script) (w : World) (bytes : List ℕ) → w.state.len < 0x100000000 → (seen a).place ≡ place_word w.state.indent a
    → (seen (call_record a x w bytes).answer).place ≡ place_word w.state.indent (call_record a x w bytes).answer
unfolding call_record serve_record
record_placed a x w bytes small e =
    let n : w.state.len ≡ w.state.len % 0x100000000 = omega arith in
    let i = own_indent w.state.indent in
    made_placed w _ (lent_placed x _ w.state n i a e (asked_placed x _ w.state n i (decode bytes)))

-- ---- an opening

pub open_placed : (o : Opening) (indent : ℕ) → (seen (answer_to o)).place ≡ place_word indent (answer_to o)
open_placed (Ok n) indent = refl
open_placed (Err found.SourceLong) indent = refl
open_placed (Err (found.SourceIll i)) indent = refl
open_placed (Err (found.TreeBad i)) indent = refl
open_placed (Err (found.TreeDeep i)) indent = refl

-- and the shape behind it
pub shape_placed : (a : Answer) (t : Bool) (indent : ℕ) → (seen a).place ≡ place_word indent a → (seen (then_shape a t)).place ≡ place_word indent (then_shape a t)
shape_placed (Ok tt) true indent e = refl
shape_placed (Ok tt) false indent e = refl
shape_placed (Err r) t indent e = e
