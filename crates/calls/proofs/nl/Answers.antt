-- `calls::nl` meets its contract. Assumes nothing.
use Rattle.text.proofs.Base.{◌∙◌, refl, sym}
use Rattle.lent.proofs.StopLaws.{goes}
use Rattle.calls.proofs.CallLaws.{by_nl, by_open, by_stopped, nl_nothing, made_ready}
use Rattle.calls.proofs.nl.Goals as goal

pub returns-then-n-eq0 : goal.returns-then-n-eq0
returns-then-n-eq0 c =
    made_ready c.stops.ensures refl
    (nl_nothing c.args.queue.now c.if-n-eq0.true)

pub returns-else-not-stopped : goal.returns-else-not-stopped
returns-else-not-stopped c =
    made_ready c.stops.ensures refl
    (by_stopped (by_nl _ _ c.if-n-eq0.false) c.release.ensures (sym c.stopped.ensures ∙ c.if-not-stopped.false))

pub returns-then-not-stopped : goal.returns-then-not-stopped
returns-then-not-stopped c =
    made_ready c.stops.ensures refl
    (by_open (by_nl _ _ c.if-n-eq0.false) c.release.ensures (goes c.stopped.ensures c.if-not-stopped.true) (rw (c.set_lines.ensures, c.or_else.ensures)))
