-- `bench::bench_calls` meets its contract. The list's plan on a fresh engine. Assumes nothing.
use Prim.Native.Nat.{ℕ}
use lib.ListN.{replicate, length-replicate}
use Rattle.lent.proofs.MadeLaws.{keeps}
use Rattle.bench.proofs.HistoryLaws.{replays}
use Rattle.bench.proofs.bench_calls.Goals as goal

pub shape_of-out : goal.shape_of-out
shape_of-out c = keeps c.replay.ensures

pub returns : goal.returns
returns c = replays c.args.source.now c.args.tree.now (replicate 32768 0) _ c.decode-n.ensures (length-replicate {A = ℕ} 32768 0) c.first.ensures c.args.records.now c.args.out.now c.fresh-s.ensures c.started-fmt.ensures c.replay.ensures c.reached.ensures
