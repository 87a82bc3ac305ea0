-- After a refusal the engine behind the reference is as it was: what a caller cites. Assumes nothing.
use Rattle.std.specs.Prelude.{Err}
use Rattle.text.proofs.Base.{◌≡◌, ◌∙◌, ap, ℕ, List}
use Rattle.meaning.specs.declared.answer.Refusal.{Refusal}
use Rattle.meaning.specs.Answer.{Answer}
use Rattle.meaning.specs.World.{Result}
use Rattle.entry.specs.Served.{left_of}
use Rattle.engine_mut.specs.{declared.Engine.Engine, Stored.Stored, Stored.stored_in}

pub refused_as_it_was : {e e' : Engine} {a : Answer} {b' : List ℕ} {r : Result} (why : Refusal) → Stored e a e' b' r → r.answer ≡ Err why → e' ≡ e
refused_as_it_was {e = e} {r = r} why h is = h.engine ∙ ap (λ (y : Answer). stored_in (left_of e.state y r.left.state)) is
