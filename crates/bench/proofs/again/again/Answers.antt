-- `bench::again::again` meets its contract. So many layouts, each on a fresh engine. Assumes nothing.
use mathlib.Core.Path.{ap}
use mathlib.Core.List.{List}
use Prim.Native.Nat.{ℕ}
use lib.ListN.{replicate, length-replicate}
use Rattle.tree.specs.declared.record.Record.{Record}
use Rattle.meaning.specs.State.{Script}
use Rattle.bench.specs.Repeated.{repeated}
use Rattle.bench.proofs.HistoryLaws.{tree_is}
use Rattle.bench.proofs.RepeatLaws.{none_done, one_done, all_done}
use Rattle.bench.proofs.again.again.Goals as goal

pub loop-init : goal.loop-init
loop-init g c = none_done c.fresh-s.ensures c.started-fmt.ensures

pub loop-preserved : goal.loop-preserved
loop-preserved g c = one_done c.fresh-s.ensures c.started-fmt-in-loop.ensures c.loop-test.true c.lay.ensures c.loop.invariant

pub shape_of-out : goal.shape_of-out
shape_of-out g c = c.loop.invariant.long

pub returns : goal.returns
returns g c =
    all_done (ap (λ (rs : List Record). let x : Script = record { source = c.args.source.now; tree = rs } in repeated x (g.L.Laid.plan c.args.what x) c.args.times c.args.out.now) (tree_is c.args.source.now c.args.tree.now (replicate 32768 0) _ c.decode-n.ensures (length-replicate {A = ℕ} 32768 0) c.first-table.ensures))
    c.loop.invariant c.loop-test.false c.reached.ensures
