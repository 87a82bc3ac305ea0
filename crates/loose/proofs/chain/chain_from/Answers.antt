-- `loose::chain::chain_from` meets its contract. Assumes nothing.
use Rattle.loose.proofs.ChainLaws.{chain_breaks, chain_fits, chain_headless}
use Rattle.lent.specs.View.{script_of}
use Rattle.loose.proofs.chain.chain_from.Goals as goal
use Rattle.loose.proofs.chain.chain_from.Goals.{else-head-lt8192-via-then-head-lt8192+else-is_wide, else-head-lt8192-via-else-head-lt8192}

pub returns-then-is_wide : goal.returns-then-is_wide
returns-then-is_wide c = chain_breaks (script_of c.args.src.now c.args.table.now) c.args.k c.args.head c.if-head-lt8192.true (rw c.node.ensures at c.is_wide.ensures) c.if-is_wide.true c.breaks_at.ensures

pub returns : goal.returns
returns c = elim c.else-head-lt8192.branch [
  | else-head-lt8192-via-then-head-lt8192+else-is_wide w ↦
      chain_fits (script_of c.args.src.now c.args.table.now) c.args.k c.args.head w.if-head-lt8192.true (rw w.node.ensures at w.is_wide.ensures) w.if-is_wide.false
  | else-head-lt8192-via-else-head-lt8192 w ↦ chain_headless (script_of c.args.src.now c.args.table.now) c.args.k c.args.head w.if-head-lt8192.false
]
