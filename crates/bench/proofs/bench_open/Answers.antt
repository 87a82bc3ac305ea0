-- `bench::bench_open` meets its contract. Assumes nothing.
use Rattle.bench.proofs.bench_open.Goals as goal

pub returns : goal.returns
returns c = rw (c.pack.ensures, c.opening.ensures)
