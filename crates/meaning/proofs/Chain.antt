-- Plans one after the other; and that no plan changes how long the buffer is. Assumes nothing.
use Rattle.std.specs.Prelude.{Ok, Err}
use mathlib.Core.Path.{◌≡◌, refl, ap, ◌∙◌}
use lib.Seq.{length-sets}
use Rattle.meaning.specs.Answer.{Answer}
use Rattle.meaning.specs.State.{Script}
use Rattle.meaning.specs.Pieces.{flat}
use Rattle.meaning.specs.Outcome.{Outcome, done, refused}
use Rattle.meaning.specs.Calls.{step}
use Rattle.meaning.specs.World.{World, capacity, Result, result, made}
use Rattle.meaning.specs.Plan.{Plan, nothing, make, refuse, ◌then◌, exec, Ran}

made_long : (w : World) (o : Outcome) → capacity (made w o).left ≡ capacity w
made_long w (done s ps) = length-sets w.buffer w.state.len (flat ps)
made_long w (refused r) = refl

exec_long : (x : Script) (p : Plan) (a : Answer) (w : World) → capacity (exec x p (result a w)).left ≡ capacity w
unfolding exec
exec_long x nothing a w = refl
exec_long x (make c) (Ok tt) w = made_long w (step x (capacity w) w.state c)
exec_long x (make c) (Err r) w = refl
exec_long x (refuse e) (Ok tt) w = refl
exec_long x (refuse e) (Err r) w = refl
exec_long x (p then q) a w = exec_long x q (exec x p (result a w)).answer (exec x p (result a w)).left ∙ exec_long x p a w

-- so that a function's `same_length` follows from its `returns`
pub keeps : {x : Script} {p : Plan} {r s : Result} → Ran x p r s → capacity s.left ≡ capacity r.left
keeps {x} {p} {r} {s} h = ap (λ (z : Result). capacity z.left) h.ran ∙ exec_long x p r.answer r.left

pub still : {x : Script} {r : Result} → Ran x nothing r r
unfolding exec
still = record { ran = refl }

infixr 50 ◌▹◌
-- one plan after another, in the order of the code
pub ◌▹◌ : {x : Script} {p q : Plan} {r s t : Result} → Ran x p r s → Ran x q s t → Ran x (p then q) r t
unfolding exec
◌▹◌ {x} {p} {q} a b = record { ran = b.ran ∙ ap (exec x q) a.ran }
