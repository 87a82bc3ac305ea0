-- `calls::lit` meets its contract. Assumes nothing.
use Rattle.text.proofs.Base.{refl}
use Rattle.calls.proofs.{CallLaws.lit_is, CallLaws.made_ready}
use Rattle.calls.proofs.lit.Goals as goal

pub returns : goal.returns
returns c =
    made_ready c.stops.ensures refl
    (lit_is c.args.queue.now c.text.ensures c.put.ensures)
