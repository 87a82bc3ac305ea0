use Rattle.text.proofs.Base.{◌+◌, ◌-◌}
use Rattle.lent.specs.View.{queue_of}
use Rattle.queue.proofs.{PassLaws.Measuring}
use Rattle.queue.proofs.release.measure.Given as goal

abbrev pub invariant-loop-i : goal.invariant-loop-i
invariant-loop-i l = Measuring l.src l.way l.fmt.indent l.cap l.fmt.len (queue_of l.queue l.fmt.head l.fmt.count) l.len l.front l.i (queue_of l.queue (l.fmt.head + l.i) (l.fmt.count - l.i))
