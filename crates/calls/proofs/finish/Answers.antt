-- `calls::finish` meets its contract. Assumes nothing.
use Rattle.text.proofs.Base.{◌∙◌, refl, sym}
use Rattle.lent.proofs.StopLaws.{goes}
use Rattle.calls.proofs.{CallLaws.by_finish, CallLaws.by_open, CallLaws.by_stopped, CallLaws.made_ready}
use Rattle.calls.proofs.finish.Goals as goal

pub returns-else-not-stopped : goal.returns-else-not-stopped
returns-else-not-stopped c =
    made_ready c.stops.ensures refl
    (by_stopped (by_finish _) c.release_waiting.ensures (sym c.stopped.ensures ∙ c.if-not-stopped.false))

pub returns-then-not-stopped : goal.returns-then-not-stopped
returns-then-not-stopped c =
    made_ready c.stops.ensures refl
    (by_open (by_finish _) c.release_waiting.ensures (goes c.stopped.ensures c.if-not-stopped.true) refl)
