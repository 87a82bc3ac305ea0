-- Laws of plans, for the proofs of layout rules. Assumes nothing.
use Rattle.std.specs.Prelude.{Ok, Err}
use mathlib.Core.Path.{◌≡◌, refl, ap, ◌∙◌}
use mathlib.Core.List.{List, [], ◌∷◌, ◌++◌, append-nil, append_assoc}
use lib.Seq.{sets}
use Rattle.meaning.specs.declared.call.Call.{Call}
use Rattle.meaning.specs.declared.answer.Refusal.{Refusal}
use Rattle.meaning.specs.Answer.{Answer}
use Rattle.meaning.specs.State.{Script, State}
use Rattle.meaning.specs.Pieces.{Piece, flat}
use Rattle.meaning.specs.Outcome.{Outcome, done, refused}
use Rattle.meaning.specs.Calls.{step}
use Rattle.meaning.specs.World.{World, world, capacity, Result, result, made}
use Rattle.meaning.specs.Plan.{Plan, nothing, make, refuse, ◌then◌, calls_of, go_on, exec}

module _ (x : Script) where
  -- a refusal is sticky
  pub sticky : (p : Plan) (r : Refusal) (w : World) → exec x p (result (Err r) w) ≡ result (Err r) w
  unfolding exec
  sticky nothing r w = refl
  sticky (make c) r w = refl
  sticky (refuse a) r w = refl
  sticky (p then q) r w = ap (exec x q) (sticky p r w) ∙ sticky q r w

  -- code order: what stands behind goes on from what stands before
  pub exec_nothing : (r : Result) → exec x nothing r ≡ r
  unfolding exec
  exec_nothing r = refl

  pub exec_then : (p q : Plan) (r : Result) → exec x (p then q) r ≡ exec x q (exec x p r)
  unfolding exec
  exec_then p q r = refl

  pub exec_make : (c : Call) (w : World) → exec x (make c) (result (Ok tt) w) ≡ made w (step x (capacity w) w.state c)
  unfolding exec
  exec_make c w = refl

  pub exec_refuse : (a : Refusal) (w : World) → exec x (refuse a) (result (Ok tt) w) ≡ result (Err a) w
  unfolding exec
  exec_refuse a w = refl

-- ---- what holds of every run that goes

module _ (x : Script) (P : List Call → World → Type 0) where
  -- of an answer and a world: where nothing was refused, P holds of the calls made so far
  pub data OnRun (cs : List Call) : Answer → World → Type 0 where
    on_done : {w : World} → P cs w → OnRun cs (Ok tt) w
    on_refused : {r : Refusal} {w : World} → OnRun cs (Err r) w

  -- if each call that goes keeps P, a plan that goes keeps it
  abbrev pub Kept : Type 0
  Kept = (cs : List Call) (w : World) (c : Call) (s : State) (ps : List Piece) → P cs w → step x (capacity w) w.state c ≡ done s ps
      → P (cs ++ (c ∷ [])) (world s (sets w.buffer w.state.len (flat ps)))

  made_on : Kept → (cs : List Call) (w : World) (c : Call) → P cs w → (o : Outcome) → step x (capacity w) w.state c ≡ o → OnRun (cs ++ (c ∷ [])) (made w o).answer (made w o).left
  made_on keep cs w c h (done s ps) e = on_done (keep cs w c s ps h e)
  made_on keep cs w c h (refused r) e = on_refused

  go_on_lem : {cs ds : List Call} (a : Answer) (w : World) (next : World → Result) → OnRun cs a w → (P cs w → OnRun ds (next w).answer (next w).left)
      → OnRun ds (go_on a w next).answer (go_on a w next).left
  go_on_lem a w next (on_done h) k = k h
  go_on_lem a w next on_refused k = on_refused

  pub exec_on : Kept → (p : Plan) {cs : List Call} (r : Result) → OnRun cs r.answer r.left → OnRun (cs ++ calls_of p) (exec x p r).answer (exec x p r).left
  unfolding exec
  exec_on keep nothing {cs} r q = rw (append-nil cs) q
  exec_on keep (make c) {cs} r q = go_on_lem r.answer r.left _ q λ h. made_on keep cs r.left c h _ refl
  exec_on keep (refuse a) r q = go_on_lem r.answer r.left _ q λ _. on_refused
  exec_on keep (p then q) {cs} r h = rw (← append_assoc cs) (exec_on keep q (exec x p r) (exec_on keep p r h))
