-- `bench::bench_utf8` meets its contract. Assumes nothing.
use Rattle.bench.proofs.bench_utf8.Goals as goal

pub returns : goal.returns
returns c = rw (c.finding.ensures, c.check.ensures)
