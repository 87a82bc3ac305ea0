use Rattle.encoding.specs.Walk.{Past}
use Rattle.encoding.proofs.utf8.past_plain.Given as goal

abbrev pub invariant-loop-i : goal.invariant-loop-i
invariant-loop-i l = Past l.s l.from l.i
