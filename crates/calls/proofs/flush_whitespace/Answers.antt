-- `calls::flush_whitespace` meets its contract. Assumes nothing.
use Rattle.text.proofs.Base.{refl}
use Rattle.calls.proofs.{CallLaws.flush_is, CallLaws.made_ready}
use Rattle.calls.proofs.flush_whitespace.Goals as goal

pub returns : goal.returns
returns c =
    made_ready c.stops.ensures refl
    (flush_is c.args.queue.now refl c.put.ensures)
