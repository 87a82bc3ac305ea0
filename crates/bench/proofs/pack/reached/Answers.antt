-- `bench::pack::reached` meets its contract. By the answer. Assumes nothing.
use mathlib.Core.Path.{sym, ◌∙◌}
use Rattle.bench.proofs.PackLaws.{reached_refused, reached_done}
use Rattle.bench.proofs.pack.reached.Goals as goal

pub returns-then-stopped : goal.returns-then-stopped
returns-then-stopped c = let r = c.args.fmt.now in c.pack.ensures ∙ reached_refused r.answer r.len (sym c.stopped.ensures ∙ c.if-stopped.true)

pub returns : goal.returns
returns c = let r = c.args.fmt.now in reached_done r.answer r.len (sym c.stopped.ensures ∙ c.if-stopped.false)
