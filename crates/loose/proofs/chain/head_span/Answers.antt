-- `loose::chain::head_span` meets its contract. Assumes nothing.
use Rattle.loose.proofs.ChainLaws.{head_alone, head_called}
use Rattle.text.proofs.Base.{sym}
use Rattle.loose.proofs.chain.head_span.Goals as goal

pub returns-in-Some : goal.returns-in-Some
returns-in-Some c = head_called _ _ c.node.ensures (sym c.in-Some.is) c.node-in-Some.ensures c.head.ensures c.join.ensures

pub returns-in-None : goal.returns-in-None
returns-in-None c = head_alone _ _ c.node.ensures (sym c.in-None.is)
