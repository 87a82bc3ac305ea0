-- A history, the refused left out, is one row of calls, and the buffer holds what they wrote. Assumes nothing.
use Rattle.std.specs.Prelude.{Ok, Err}
use mathlib.Core.Path.{◌≡◌, refl, sym, ap, ap₂, ◌∙◌}
use Prim.Native.Nat.{ℕ, ◌+◌, ◌-◌, ◌≤◌}
use native.Mathlib.Nat.{le_refl}
use native.Mathlib.Omega.{arith}
use mathlib.Core.Bool.{Bool, true, false}
use mathlib.Core.List.{List, [], ◌∷◌, ◌++◌, append-nil, append_assoc}
use mathlib.Core.Option.{Option, none, some}
use lib.ListN.{drop}
use lib.Seq.{sets, length-sets, drop-drop}
use Rattle.meaning.specs.declared.call.Call.{Call}
use Rattle.meaning.specs.declared.answer.Refusal.{Refusal}
use Rattle.meaning.specs.Answer.{Answer}
use Rattle.meaning.specs.State.{Script, State}
use Rattle.meaning.specs.Pieces.{Piece, flat}
use Rattle.meaning.specs.Outcome.{Outcome, done, refused, refuse_if}
use Rattle.meaning.specs.Calls.{step}
use Rattle.meaning.specs.CallRecord.{decode, asked}
use Rattle.meaning.specs.Lent.{lent_state, lent, serve, serve_record}
use Rattle.meaning.specs.World as World
use Rattle.meaning.specs.World.{World, world, capacity, output, Result, result, call, call_record}
use Rattle.meaning.specs.Plan.{Plan, calls_of, exec, put_back, ready, run}
use Rattle.meaning.specs.History.{Event, a_call, a_record, a_run, asks, counts, happens, after, went}
use Rattle.meaning.proofs.Laws.{map_append, flat_append}
use Rattle.meaning.proofs.Step.{fair}
use Rattle.meaning.proofs.Steps.{Made, made, call_of, calls_in, pieces, pieces_append, Steps, nil, go, steps_append, fits_from}
use Rattle.meaning.proofs.Plans.{OnRun, on_done, on_refused, Kept, exec_on}
use Rattle.meaning.proofs.Buffers.{sets_output, sets_beyond, zeroed_length, zeroed_below}

-- w' has no byte changed beyond its length
pub record Grown (w w' : World) : Type 0 where
  pub longer : w.state.len ≤ w'.state.len
  pub beyond : drop w'.state.len w'.buffer ≡ drop w'.state.len w.buffer

grown_then : {w w₁ w₂ : World} → Grown w w₁ → Grown w₁ w₂ → Grown w w₂
grown_then {w} {w₁} {w₂} p q = record { longer = omega arith; beyond = q.beyond ∙ further w₁.state.len w₂.state.len w₁.buffer w.buffer q.longer p.beyond }
  where
    further : (m n : ℕ) (a b : List ℕ) → m ≤ n → drop m a ≡ drop m b → drop n a ≡ drop n b
    further m n a b h e =
        let d : m + (n - m) ≡ n = omega arith in
        rw (drop-drop (n - m) m a, drop-drop (n - m) m b, d) at (ap (drop (n - m)) e)

-- from w by calls to w', in a buffer of one size; what they wrote stands behind what stood there
pub record Traced (x : Script) (w : World) (calls : List Call) (w' : World) : Type 0 where
  pub ms : List Made
  pub calls_are : calls_in ms ≡ calls
  pub steps : Steps x (capacity w) w.state ms w'.state
  pub size : capacity w' ≡ capacity w
  pub output_is : output w' ≡ output w ++ flat (pieces ms)

module _ (x : Script) where
  traced_none : (w w' : World) → w'.state ≡ w.state → capacity w' ≡ capacity w → output w' ≡ output w → Traced x w [] w'
  traced_none w w' e size out = record { ms = []; calls_are = refl; steps = rw e nil; size = size; output_is = out ∙ sym (append-nil (output w)) }

  traced_then : {w w₁ w₂ : World} {cs ds : List Call} → Traced x w cs w₁ → Traced x w₁ ds w₂ → Traced x w (cs ++ ds) w₂
  traced_then {w} p q = record {
    ms = p.ms ++ q.ms;
    calls_are = map_append call_of p.ms q.ms ∙ ap₂ (λ a b. a ++ b) p.calls_are q.calls_are;
    steps = steps_append x (capacity w) p.steps (rw p.size at q.steps);
    size = q.size ∙ p.size;
    output_is = rw (q.output_is, p.output_is, pieces_append p.ms q.ms, flat_append (pieces p.ms)) (append_assoc (output w) _ _);
  }

  traced_fits : {w w' : World} {cs : List Call} → Traced x w cs w' → w.state.len ≤ capacity w → w'.state.len ≤ capacity w'
  traced_fits {w} {w'} t h = omega (arith, fits_from x (capacity w) t.steps h, t.size)

  -- one call
  pub traced_call : (w : World) (c : Call) {s : State} {ps : List Piece} → w.state.len ≤ capacity w → step x (capacity w) w.state c ≡ done s ps
      → Traced x w (c ∷ []) (world s (sets w.buffer w.state.len (flat ps)))
  traced_call w c {s} {ps} h e =
      let f = fair x (capacity w) c e in
      let to = f.fits h in
      let g = f.grew in
      record {
        ms = made c ps ∷ [];
        calls_are = refl;
        steps = go c e nil;
        size = length-sets w.buffer w.state.len (flat ps);
        output_is = rw (g, append-nil ps) (sets_output w.buffer (flat ps) w.state.len (omega arith));
      }

  pub grown_call : (w : World) (c : Call) {s : State} {ps : List Piece} → w.state.len ≤ capacity w → step x (capacity w) w.state c ≡ done s ps
      → Grown w (world s (sets w.buffer w.state.len (flat ps)))
  grown_call w c {s} {ps} h e =
      let f = fair x (capacity w) c e in
      let to = f.fits h in
      let g = f.grew in
      record { longer = omega arith; beyond = rw g (sets_beyond w.buffer (flat ps) w.state.len (omega arith)) }

  -- ---- a run that goes

  pub record Reached (w : World) (cs : List Call) (w' : World) : Type 0 where
    pub traced : Traced x w cs w'
    pub grown : Grown w w'

  reach_on : {w : World} → w.state.len ≤ capacity w → Kept x (Reached w)
  reach_on h cs w₁ c s ps q e =
      let f = traced_fits q.traced h in
      record { traced = traced_then q.traced (traced_call w₁ c f e); grown = grown_then q.grown (grown_call w₁ c f e) }

-- ---- what was not refused passed the checks

refuse_done : (b : Bool) (r : Refusal) (o : Outcome) {s : State} {ps : List Piece} → refuse_if b r o ≡ done s ps → o ≡ done s ps
unfolding refuse_if
refuse_done true r o e = let z : ◌≡◌ {A = ℕ} 0 1 = cc in absurd (omega arith)
refuse_done false r o e = e

pub lent_done : (opening : Answer) (x : Script) (cap : ℕ) (s₀ : State) (o : Outcome) {s : State} {ps : List Piece} → lent opening x cap s₀ o ≡ done s ps → o ≡ done s ps
unfolding lent_state
lent_done (Ok tt) x cap s₀ o e = refuse_done _ _ _ (refuse_done _ _ _ (refuse_done _ _ _ e))
lent_done (Err r) x cap s₀ o e = let z : ◌≡◌ {A = ℕ} 0 1 = cc in absurd (omega arith)

-- ---- the events

module _ (opening : Answer) (x : Script) where
  -- the calls that count lead from w to what is left
  Counted : World → List Call → Result → Type 0
  Counted w cs r = Traced x w (counts r.answer cs) r.left

  call_counted : (w : World) (c : Call) → w.state.len ≤ capacity w → (o : Outcome) → serve opening x (capacity w) w.state c ≡ o → Counted w (c ∷ []) (World.made w o)
  unfolding Counted serve
  call_counted w c h (done s ps) e = traced_call x w c h (lent_done opening x (capacity w) w.state _ e)
  call_counted w c h (refused r) e = traced_none x w w refl refl refl

  record_counted : (w : World) (bytes : List ℕ) → w.state.len ≤ capacity w → (o : Outcome) → serve_record opening x (capacity w) w.state 0 bytes ≡ o
      → Counted w (asks (a_record bytes)) (World.made w o)
  unfolding Counted serve_record
  record_counted w bytes h (done s ps) e = known (decode bytes) refl (lent_done opening x (capacity w) w.state _ e)
    where
      known : (d : Option Call) → decode bytes ≡ d → asked 0 d (step x (capacity w) w.state) ≡ done s ps
          → Traced x w (asks (a_record bytes)) (world s (sets w.buffer w.state.len (flat ps)))
      known none d e = let z : ◌≡◌ {A = ℕ} 0 1 = cc in absurd (omega arith)
      known (some c) d e = rw d (traced_call x w c h e)
  record_counted w bytes h (refused r) e = traced_none x w w refl refl refl

  run_counted : (w : World) (p : Plan) → (a : Answer) (w₁ : World) → OnRun x (Reached x w) (calls_of p) a w₁ → Counted w (calls_of p) (put_back w (result a w₁))
  unfolding Counted
  run_counted w p a w₁ (on_done q) = q.traced
  run_counted w p a w₁ on_refused = traced_none x w _ refl (zeroed_length w.state.len w.buffer) (zeroed_below w.state.len w.buffer)

  ready_on : (w : World) (a : Answer) → OnRun x (Reached x w) [] a w
  ready_on w (Ok tt) = on_done (record { traced = traced_none x w w refl refl refl; grown = record { longer = le_refl _; beyond = refl } })
  ready_on w (Err r) = on_refused

  pub run_on : (w : World) (p : Plan) → w.state.len ≤ capacity w → (r : Result) → exec x p (result (ready opening x w) w) ≡ r → OnRun x (Reached x w) (calls_of p) r.answer r.left
  run_on w p h r e = rw (← e) (exec_on x (Reached x w) (reach_on x h) p _ (ready_on w (ready opening x w)))

  event_counted : (w : World) (e : Event) → w.state.len ≤ capacity w → Counted w (asks e) (happens opening x w e)
  unfolding call call_record run
  event_counted w (a_call c) h = call_counted w c h _ refl
  event_counted w (a_record bytes) h = record_counted w bytes h _ refl
  event_counted w (a_run p) h = run_counted w p _ _ (run_on w p h _ refl)

  -- ---- the history

  pub history_traced : (es : List Event) (w : World) → w.state.len ≤ capacity w → Traced x w (went opening x w es) (after opening x w es)
  unfolding Counted after went
  history_traced [] w h = traced_none x w w refl refl refl
  history_traced (e ∷ es) w h =
      let t = event_counted w e h in
      traced_then x t (history_traced es (happens opening x w e).left (traced_fits x t h))
