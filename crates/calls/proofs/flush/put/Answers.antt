-- `calls::flush::put` meets its contract. Assumes nothing.
use Rattle.text.proofs.Base.{◌∙◌, refl, sym}
use Rattle.lent.proofs.StopLaws.{goes}
use Rattle.calls.proofs.{CallLaws.put_done, CallLaws.put_past, CallLaws.put_stopped}
use Rattle.calls.proofs.flush.put.Goals as goal

pub returns-then-stopped : goal.returns-then-stopped
returns-then-stopped c = put_stopped (sym c.stopped.ensures ∙ c.if-stopped.true)

pub returns-then-passes : goal.returns-then-passes
returns-then-passes c =
    put_past c.args.t.now c.args.fmt.now c.due-gap.result c.due-gap.ensures (goes c.stopped.ensures c.if-stopped.false)
    (sym c.passes.ensures.0 ∙ c.if-passes.true) c.refused.ensures

pub returns : goal.returns
returns c =
    put_done c.args.t.now c.args.fmt.now c.due-gap.result c.due-gap.ensures (goes c.stopped.ensures c.if-stopped.false)
    (sym c.passes.ensures.0 ∙ c.if-passes.false) c.flush.ensures refl c.lay-to.ensures
