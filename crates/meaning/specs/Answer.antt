-- What a call or a run answers: done, or a refusal. Assumes nothing.
use Rattle.std.specs.Prelude.{Result}
use Rattle.meaning.specs.declared.answer.Refusal.{Refusal}

abbrev pub Answer : Type 0
Answer = Result (Unit {0}) Refusal
