-- Runs: a plan keeps every byte below the output's length, so that what the code leaves at a run's end is what the meaning's run leaves.
-- Assumes nothing.
use Rattle.std.specs.Prelude.{Ok, Err}
use Rattle.text.proofs.Base.{◌≡◌, refl, ap, ◌∙◌, Bool, true, false, ◌||◌, List, [], ◌∷◌, ℕ, suc, ◌+◌, ◌-◌, ◌*◌, ◌≤◌, arith}
use Rattle.text.proofs.Base.{length, take, ltb}
use lib.ListN.{set, replicate, length-replicate}
use lib.Seq.{sets, take-set-le, take_all, drop-length, sets-eq}
use mathlib.Core.List.{append-nil}
use Rattle.tree.specs.{declared.record.RecordNo.RecordNo, declared.record.Record.Record, Records.records, Table.tree_of, Table.Decoded}
use Rattle.opening.specs.{Opening.opened}
use Rattle.meaning.specs.{declared.answer.Refusal.Refusal, declared.call.Call.Call, declared.answer.Refusal.TheVariants.NoRoom}
use Rattle.meaning.specs.{declared.answer.Refusal.TheVariants.QueueFull, declared.answer.Refusal.TheVariants.IndentOut}
use Rattle.meaning.specs.{declared.answer.Refusal.TheVariants.Finished, Answer.Answer}
use Rattle.meaning.specs.{State.Script, State.State, Pieces.flat, Outcome.Outcome}
use Rattle.meaning.specs.{Outcome.done, Outcome.refused, Outcome.refuse_if, Calls.step, World.World, World.world, World.capacity, World.Result}
use Rattle.meaning.specs.{World.result, World.made, Plan.Plan, Plan.nothing, Plan.make, Plan.refuse, Plan.◌then◌, Plan.exec, Plan.zeroed}
use Rattle.meaning.specs.{Plan.put_back, Plan.answer_of, Plan.ready, Plan.run, Lent.any_outside, Lent.lent_state, Opening.answer_to, Opening.script_in}
use Rattle.meaning.proofs.Step.{fair}
use Rattle.lent.proofs.TabLaws.{length_tab}
use Rattle.entry.specs.Room.{Room}
use Rattle.entry.specs.declared.state.State as code
use Rattle.entry.specs.{declared.state.Step.Step, Served.started_run, Served.state_of, Served.left_of, Served.checked_answer, Served.lent_answer}
use Rattle.entry.specs.{Served.lent_run, Served.Served, Ended.ended_buffer, Ended.Ended, Ended.run_left, Ended.begun}
use Rattle.lent.specs.{declared.formatter.Formatter.Formatter, Run.ready_answer, Run.ready_run, View.ring_at, View.queue_of, View.view, View.result_of, View.script_of}
use Rattle.lent.specs.{Run.Readied, Loans.Engine, Loans.engine, Loans.reads, Loans.Makes}
use Rattle.entry.proofs.ServeLaws.{either_script, lent_refused}

-- ---- bytes below the output's length stay

below_sets : (n : ℕ) (l vs : List ℕ) (i : ℕ) → n ≤ i → take n (sets l i vs) ≡ take n l
below_sets n l [] i h = refl
below_sets n l (v ∷ vs) i h = below_sets n (set l i v) vs (suc i) (omega arith) ∙ take-set-le n l i v h

-- so many bytes are as they were, and the output is no shorter
record Kept (n : ℕ) (w w' : World) : Type 0 where
  same : take n w'.buffer ≡ take n w.buffer
  more : n ≤ w'.state.len

made_kept : (x : Script) (n : ℕ) (w : World) (c : Call) → n ≤ w.state.len → (o : Outcome) → step x (capacity w) w.state c ≡ o → Kept n w (made w o).left
made_kept x n w c h (done s ps) e = record { same = below_sets n w.buffer (flat ps) w.state.len h; more = omega (arith, (fair x (capacity w) c e).grew) }
made_kept x n w c h (refused r) e = record { same = refl; more = h }

exec_kept : (x : Script) (p : Plan) (n : ℕ) (a : Answer) (w : World) → n ≤ w.state.len → Kept n w (exec x p (result a w)).left
unfolding exec
exec_kept x nothing n a w h = record { same = refl; more = h }
exec_kept x (make c) n (Ok tt) w h = made_kept x n w c h (step x (capacity w) w.state c) refl
exec_kept x (make c) n (Err r) w h = record { same = refl; more = h }
exec_kept x (refuse e) n (Ok tt) w h = record { same = refl; more = h }
exec_kept x (refuse e) n (Err r) w h = record { same = refl; more = h }
exec_kept x (p then q) n a w h =
    let f = exec_kept x p n a w h in
    let g = exec_kept x q n (exec x p (result a w)).answer (exec x p (result a w)).left f.more in
    record { same = g.same ∙ f.same; more = g.more }

-- ---- zeroing

zeroed_same : (n : ℕ) (b b₀ : List ℕ) → take n b ≡ take n b₀ → length b ≡ length b₀ → zeroed n b ≡ zeroed n b₀
unfolding zeroed
zeroed_same n b b₀ e l = rw (e, l)

pub zero_all : (n : ℕ) (b b' : List ℕ) → n ≤ length b → b' ≡ sets b n (replicate (length b - n) 0) → b' ≡ zeroed n b
unfolding zeroed
zero_all n b b' h e =
    let l : n + length (replicate {A = ℕ} (length b - n) 0) ≡ length b = omega (arith, length-replicate {A = ℕ} (length b - n) 0) in
    e ∙ sets-eq (replicate (length b - n) 0) b n (omega arith) ∙ rw (l, drop-length b, append-nil)

pub zero_none : (n : ℕ) (b : List ℕ) → length b ≤ n → b ≡ zeroed n b
unfolding zeroed
zero_none n b h = let z : length b - n ≡ 0 = omega arith in rw (z, append-nil, take_all n b h)

-- ---- a run's start: the checks on what is lent, then 10

four_tests : (t4 t5 t6 t10 : Bool) (r : Formatter) (s : State) → ready_answer (checked_answer t4 t5 t6 r) t10 r.len
    ≡ answer_of (refuse_if t4 (NoRoom r.len) (refuse_if t5 (QueueFull (record { 0 = 8192 })) (refuse_if t6 (IndentOut r.indent) (refuse_if t10 (Finished r.len) (done s [])))))
unfolding refuse_if
four_tests true t5 t6 t10 r s = refl
four_tests false true t6 t10 r s = refl
four_tests false false true t10 r s = refl
four_tests false false false true r s = refl
four_tests false false false false r s = refl

ready_at : (a : Answer) (x : Script) (r : Formatter) (q b : List ℕ)
    → ready_answer (lent_answer a (ltb (length b) r.len) (ltb 256 r.count || any_outside x.source (queue_of q r.head r.count)) (ltb 64 r.indent) r) r.finished r.len
    ≡ ready a x (world (view r q) b)
unfolding ready lent_state
ready_at (Ok tt) x r q b =
    let n : length (queue_of q r.head r.count) ≡ r.count = length_tab (ring_at q) r.head r.count in
    rw n (four_tests (ltb (length b) r.len) (ltb 256 r.count || any_outside x.source (queue_of q r.head r.count)) (ltb 64 r.indent) r.finished r (view r q))
ready_at (Err e) x r q b = refl

-- ---- a run's end

-- by the answer of the plan, with the state t and the buffer b left
back : (s : code.State) (b₀ b : List ℕ) (a : Answer) (t : State) (z : Step) (b' : List ℕ) → take s.now.len b ≡ take s.now.len b₀ → length b ≡ length b₀
    → z ≡ left_of s a t → b' ≡ ended_buffer a s.now.len b → Served s z b' (put_back (world (state_of s) b₀) (result a (world t b)))
back s b₀ b (Ok tt) t z b' et el ez eb = record { step = ez; buffer = eb }
back s b₀ b (Err e) t z b' et el ez eb = record { step = ez; buffer = eb ∙ zeroed_same s.now.len b b₀ et el }

-- a rule's plan, begun as a run begins and ended by `ended`, is the meaning's run
run_is : (opening : Answer) (x : Script) (p : Plan) {s : code.State} (b₀ : List ℕ) {r : Formatter} {q b : List ℕ} {z : Step} {b' : List ℕ}
    → result_of r q b ≡ exec x p (result (ready opening x (world (state_of s) b₀)) (world (state_of s) b₀)) → length b ≡ length b₀ → Ended s r q b z b' → Served s z b' (run opening x (world (state_of s) b₀) p)
unfolding run
run_is opening x p {s} b₀ {r} {q} {b} {z} {b'} e l k =
    let f = exec_kept x p s.now.len (ready opening x (world (state_of s) b₀)) (world (state_of s) b₀) (omega arith) in
    let c : take s.now.len b ≡ take s.now.len b₀ = ap (λ (y : Result). take s.now.len y.left.buffer) e ∙ f.same in
    rw (← e) (back s b₀ b r.answer (view r q) z b' c l k.step k.buffer)

-- ---- over the lent bytes

-- the table is decoded, the checks are made on the lent scalars w₀, and the plan runs on what they leave
module _ (src list words table : List ℕ) (n : RecordNo) (d : Decoded list words n.0 table) (room : Room list words) (w₀ : Formatter) (q₀ b₀ : List ℕ) (ea : w₀.answer ≡ answer_to (opened src list))
    {r₁ : Formatter} (w : Formatter) {t : Bool} (e₁ : r₁ ≡ lent_run src q₀ (length b₀) w₀) (eg : Readied r₁ w t) where
  start : Formatter
  start = ready_run (lent_run src q₀ (length b₀) w₀)

  go_is : w ≡ start
  unfolding start
  go_is = eg.is ∙ ap ready_run e₁

  still_refused : (e : Refusal) → answer_to (opened src list) ≡ Err e → start.answer ≡ Err e
  unfolding start ready_run lent_run
  still_refused e h = rw (lent_refused w₀.answer (ltb (length b₀) w₀.len) (ltb 256 w₀.count || any_outside src (queue_of q₀ w₀.head w₀.count)) (ltb 64 w₀.indent) w₀ e (ea ∙ h))

  -- the plan may hang on the tree
  pub ran_begun : (p : List Record → Plan) {tb : List ℕ} {e : Engine} → tb ≡ take (n.0 * 4) table → Makes (script_of src tb) (p (tree_of tb)) (engine w q₀ b₀) e
      → reads e ≡ exec (script_in src list) (p (records list)) (begun src w₀ q₀ b₀)
  unfolding reads begun start
  ran_begun p {tb} et h =
      h.ran.ran ∙ ap (λ (g : Formatter). exec (script_of src tb) (p (tree_of tb)) (result_of g q₀ b₀)) go_is
      ∙ rw et (either_script src list words table n d room p (opened src list) refl start.answer (world (view start q₀) b₀) still_refused)

-- and what that leaves is what the meaning's run leaves, where the scalars began from the lent state s
module _ (src list : List ℕ) (s : code.State) (b₀ : List ℕ) (p : Plan) {a₀ : Answer} (ea : a₀ ≡ answer_to (opened src list)) (w₀ : Formatter) (e₀ : w₀ ≡ started_run s.now a₀) where
  begins : begun src w₀ s.queue b₀ ≡ result (ready a₀ (script_in src list) (world (state_of s) b₀)) (world (state_of s) b₀)
  unfolding begun ready_run lent_run
  begins = rw e₀ (ap (λ (a : Answer). result a (world (state_of s) b₀)) (ready_at a₀ (script_in src list) (started_run s.now a₀) s.queue b₀))

  pub serve_ran : (w' : Formatter) (q b : List ℕ) {z : Step} {b' : List ℕ} → reads (engine w' q b) ≡ exec (script_in src list) p (begun src w₀ s.queue b₀) → length b ≡ length b₀ → Ended s w' q b z b'
      → Served s z b' (run_left src list s b₀ p)
  unfolding reads
  serve_ran w' q b e l k = rw (← ea) (run_is a₀ (script_in src list) p b₀ (e ∙ ap (exec (script_in src list) p) begins) l k)
