-- `bench::history::record_at` meets its contract. Whole, or up to the list's end. Assumes nothing.
use Prim.Native.Nat.{◌+◌}
use lib.ListN.{get_or}
use mathlib.Core.Path.{ap}
use Rattle.bench.proofs.HistoryLaws.{body_most, record_part, record_rest}
use native.Mathlib.Omega.{arith}
use Rattle.bench.proofs.history.record_at.Goals as goal

pub overflow_add-n : goal.overflow_add-n
overflow_add-n c = omega (arith, c.body-n.ensures, body_most (get_or c.args.records.now c.args.at 0))

pub returns-then-n-records : goal.returns-then-n-records
returns-then-n-records c = record_part c.args.records.now c.args.at _ (ap (1 +◌) c.body-n.ensures)

pub returns : goal.returns
returns c = record_rest c.args.records.now c.args.at _ (ap (1 +◌) c.body-n.ensures) c.if-n-records.false
