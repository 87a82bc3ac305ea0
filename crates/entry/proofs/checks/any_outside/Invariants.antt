use Rattle.text.proofs.Base.{◌+◌, ◌-◌, ◌≡◌}
use Rattle.meaning.specs.Lent.{any_outside}
use Rattle.lent.specs.View.{queue_of}
use Rattle.entry.proofs.checks.any_outside.Given as goal

abbrev pub invariant-loop-i : goal.invariant-loop-i
invariant-loop-i l = any_outside l.src (queue_of l.queue (l.head + l.i) (l.count - l.i)) ≡ any_outside l.src (queue_of l.queue l.head l.count)
