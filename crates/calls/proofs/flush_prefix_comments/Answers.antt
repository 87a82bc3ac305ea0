-- `calls::flush_prefix_comments` meets its contract. Collecting, then a release. Assumes nothing.
use Rattle.text.proofs.Base.{◌∙◌, refl, sym}
use Rattle.lent.proofs.StopLaws.{goes}
use Rattle.calls.proofs.{CallLaws.acted_stopped, CallLaws.made_ready, NodeLaws.prefix_done, NodeLaws.prefix_full, NodeLaws.prefix_past}
use Rattle.calls.proofs.flush_prefix_comments.Goals as goal

pub returns-then-stops : goal.returns-then-stops
returns-then-stops c =
    made_ready c.stops.ensures refl
    (acted_stopped c.args.queue.now (sym c.stops.ensures.told ∙ c.if-stops.true))

pub returns-then-process_comments : goal.returns-then-process_comments
returns-then-process_comments c =
    made_ready c.stops.ensures refl
    (prefix_full _ c.args.out.now (goes c.stops.ensures.told c.if-stops.false) refl c.process_comments.ensures c.if-process_comments.true)

pub returns-then-stopped : goal.returns-then-stopped
returns-then-stopped c =
    made_ready c.stops.ensures refl
    (prefix_past _ c.args.out.now (goes c.stops.ensures.told c.if-stops.false) refl c.process_comments.ensures c.if-process_comments.false c.release_waiting.ensures (sym c.stopped.ensures ∙ c.if-stopped.true) refl c.collected.ensures)

pub returns : goal.returns
returns c =
    made_ready c.stops.ensures refl
    (prefix_done _ c.args.out.now (goes c.stops.ensures.told c.if-stops.false) refl c.process_comments.ensures c.if-process_comments.false c.release_waiting.ensures (goes c.stopped.ensures c.if-stopped.false) refl refl)
