use Rattle.text.proofs.Base.{◌+◌, ◌-◌}
use Rattle.lent.specs.View.{queue_of}
use Rattle.queue.proofs.{PassLaws.Writing}
use Rattle.queue.proofs.release.write.Given as goal

abbrev pub invariant-loop-i : goal.invariant-loop-i
invariant-loop-i l = Writing l.src l.way l.fmt.indent l.fmt.len (queue_of l.queue l.fmt.head l.n) l.initial.out l.len l.front (queue_of l.queue (l.fmt.head + l.i) (l.n - l.i)) l.out
