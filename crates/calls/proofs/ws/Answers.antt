-- `calls::ws` meets its contract. Assumes nothing.
use Rattle.text.proofs.Base.{◌∙◌, refl, sym}
use Rattle.lent.proofs.StopLaws.{goes}
use Rattle.calls.proofs.{CallLaws.by_open, CallLaws.by_stopped, CallLaws.by_ws, CallLaws.made_ready}
use Rattle.calls.proofs.ws.Goals as goal

pub returns-else-not-stopped : goal.returns-else-not-stopped
returns-else-not-stopped c =
    made_ready c.stops.ensures refl
    (by_stopped (by_ws _) c.release.ensures (sym c.stopped.ensures ∙ c.if-not-stopped.false))

pub returns-then-not-stopped : goal.returns-then-not-stopped
returns-then-not-stopped c =
    made_ready c.stops.ensures refl
    (by_open (by_ws _) c.release.ensures (goes c.stopped.ensures c.if-not-stopped.true) refl)
