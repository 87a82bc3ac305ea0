-- What `lending::replayed` promises, of what the lent engine promised. Assumes nothing.
use Rattle.text.proofs.Base.{ℕ, List}
use Rattle.meaning.specs.World.{Result}
use Rattle.meaning.specs.Answer.{Answer}
use Rattle.entry.specs.declared.state.State as code
use Rattle.entry.specs.declared.state.Step.{Step}
use Rattle.entry.specs.Served.{Served}
use Rattle.engine_mut.specs.{declared.Engine.Engine, Stored.Stored}

abbrev lent_as : code.State → Engine
lent_as s = record { state = s }

abbrev pub left_of : Answer → Engine → Step
left_of a e = record { answer = a; state = e.state }

pub met : {s : code.State} {result : Result} (a : Answer) (e : Engine) (ws : List ℕ) → Stored (lent_as s) a e ws result → Served s (left_of a e) ws result
met a e ws m = record { step = λ i. record { answer = m.answer i; state = (m.engine i).state }; buffer = m.buffer }
