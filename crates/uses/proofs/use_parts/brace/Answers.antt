-- `uses::use_parts::brace` meets its contract. Assumes nothing.
use Rattle.steps.proofs.Rules.{expected}
use Rattle.uses.proofs.{UseLaws.brace_ignored, UseLaws.brace_written}
use Rattle.uses.proofs.use_parts.brace.Goals as goal

pub returns-then-single : goal.returns-then-single
returns-then-single g c = expected _ _ _ c.expect-k.ensures (brace_ignored c.if-single.true c.ignore.ensures)

pub returns : goal.returns
returns g c = expected _ _ _ c.expect-k.ensures (brace_written c.if-single.false c.write_owned.ensures)
