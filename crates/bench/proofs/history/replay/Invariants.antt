use Prim.Native.Nat.{◌-◌}
use lib.ListN.{length}
use Rattle.lent.specs.View.{script_of}
use Rattle.lent.specs.Loans.{engine}
use Rattle.bench.proofs.HistoryLaws.{Going}
use Rattle.bench.proofs.history.replay.Given as goal

abbrev pub invariant-loop-at : goal.invariant-loop-at
invariant-loop-at l = Going (script_of l.src l.table) l.records (engine l.initial.fmt l.initial.queue l.initial.out) (engine l.fmt l.queue l.out) l.at

abbrev pub decreases-loop-at : goal.decreases-loop-at
decreases-loop-at l = length l.records - l.at
