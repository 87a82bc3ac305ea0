-- `reasons::why::of_named` meets its contract. Assumes nothing.
use Rattle.lent.specs.View.{script_of}
use Rattle.reasons.proofs.WhyLaws.{named, nameless}
use Rattle.reasons.proofs.why.of_named.Goals as goal

pub returns-then-is_name : goal.returns-then-is_name
returns-then-is_name c = named (script_of c.args.src.now c.args.table.now) c.args.k c.args.name c.kind_at.ensures c.is_name.ensures c.if-is_name.true c.behind.ensures c.why_loose.ensures

pub returns : goal.returns
returns c = nameless (script_of c.args.src.now c.args.table.now) c.args.k c.args.name c.kind_at.ensures c.is_name.ensures c.if-is_name.false
