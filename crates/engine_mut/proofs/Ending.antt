-- What the contract of a thin call says, of what its callee promised. Assumes nothing.
use Rattle.text.proofs.Base.{ap, ℕ, List}
use Rattle.meaning.specs.World.{Result}
use Rattle.meaning.specs.Answer.{Answer}
use Rattle.entry.specs.declared.state.Step.{Step}
use Rattle.entry.specs.Served.{Served}
use Rattle.engine_mut.specs.{declared.Engine.Engine, Stored.Stored, Stored.stored_in}

pub met : (e : Engine) (z : Step) (ws : List ℕ) (r : Result) → Served e.state z ws r → Stored e z.answer (stored_in z) ws r
met e z ws r h = record { answer = ap (λ (y : Step). y.answer) h.step; engine = ap stored_in h.step; buffer = h.buffer }
