use Rattle.text.proofs.Base.{◌≡◌}
use Rattle.lent.specs.{Run.collected_run, View.script_of}
use Rattle.queue.proofs.GatherLaws.{Gathering}
use Rattle.queue.proofs.collect.process_comments.Given as goal

abbrev pub invariant-loop-i : goal.invariant-loop-i
invariant-loop-i l = (l.fmt ≡ l.initial.fmt) × Gathering (script_of l.src l.table) l.fn.from.0 (collected_run l.initial.fmt l.before l.initial.fmt.count) l.initial.queue l.queue l.i l.lines l.n
