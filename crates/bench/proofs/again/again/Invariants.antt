use Rattle.lent.specs.View.{script_of}
use Rattle.bench.proofs.RepeatLaws.{Repeating}
use Rattle.bench.proofs.again.again.Given as goal

abbrev pub invariant-loop : goal.invariant-loop
invariant-loop g l = Repeating (script_of l.source l.table) (g.L.Laid.plan l.what (script_of l.source l.table)) l.initial.out l.fmt l.queue l.out l.times l.counter
