-- `loose::chain::breaks_at` meets its contract. Assumes nothing.
use Rattle.loose.proofs.ChainLaws.{breaks_dot, breaks_first, breaks_wide}
use Rattle.lent.specs.View.{script_of}
use Rattle.loose.proofs.chain.breaks_at.Goals as goal
use Rattle.loose.proofs.chain.breaks_at.Goals.{then-is_wide-via-then-is_wide, then-is_wide-via-else-is_wide+then-dot_behind}

pub returns-then-is_wide : goal.returns-then-is_wide
returns-then-is_wide c = elim c.then-is_wide.branch [
  | then-is_wide-via-then-is_wide w ↦ breaks_wide (script_of c.args.src.now c.args.table.now) _ _ c.first_call-call.ensures c.head_span.ensures c.is_wide.ensures w.if-is_wide.true
  | then-is_wide-via-else-is_wide+then-dot_behind w ↦
      breaks_dot (script_of c.args.src.now c.args.table.now) _ _ c.first_call-call.ensures c.head_span.ensures c.is_wide.ensures w.if-is_wide.false c.first-n.ensures w.dot_behind.ensures w.if-dot_behind.true
]

pub returns : goal.returns
returns c = breaks_first (script_of c.args.src.now c.args.table.now) _ _ c.first_call-call.ensures c.head_span.ensures c.is_wide.ensures c.if-is_wide.false c.first-n.ensures c.dot_behind.ensures c.if-dot_behind.false
