-- `queue::release::release_waiting` meets its contract. Assumes nothing.
use Rattle.text.proofs.Base.{◌∙◌, refl, sym, arith}
use Rattle.lent.proofs.{StopLaws.goes}
use Rattle.queue.proofs.{StepLaws.stopped_steps, ReleaseLaws.release_done, ReleaseLaws.release_few, ReleaseLaws.release_over}
use Rattle.queue.proofs.{ReleaseLaws.release_past, ReleaseLaws.release_room}
use Rattle.queue.proofs.release.release_waiting.Goals as goal

pub returns-then-stopped : goal.returns-then-stopped
returns-then-stopped c = record { out = stopped_steps _ _ _ (sym c.stopped.ensures ∙ c.if-stopped.true); stays = λ _. refl }

pub returns-in_default : goal.returns-in_default
returns-in_default c =
    release_past c.args.src.now c.args.way c.args.queue.now c.args.fmt.now c.args.out.now (goes c.stopped.ensures c.if-stopped.false)
    (rw c.in_default.is at c.measure.ensures) c.refused.ensures

pub returns-then-passes : goal.returns-then-passes
returns-then-passes c =
    release_over c.args.src.now c.args.way c.args.queue.now c.args.fmt.now c.args.out.now (goes c.stopped.ensures c.if-stopped.false)
    _ _ c.gap_behind-gap.result (rw c.in-Some.is at c.measure.ensures) c.gap_behind-gap.ensures (sym c.passes.ensures.0 ∙ c.if-passes.true) c.refused-then-passes.ensures

pub write-requires : goal.write-requires
write-requires c =
    (release_room c.args.src.now c.args.way c.args.queue.now c.args.fmt.now c.args.out.now (goes c.stopped.ensures c.if-stopped.false)
    _ _ c.gap_behind-gap.result (rw c.in-Some.is at c.measure.ensures) c.gap_behind-gap.ensures (omega (arith, c.passes.ensures.1 c.if-passes.false)))

pub let_out-requires : goal.let_out-requires
let_out-requires c = release_few c.args.src.now c.args.way c.args.queue.now c.args.fmt.now c.args.out.now (goes c.stopped.ensures c.if-stopped.false) _ _ c.gap_behind-gap.result (rw c.in-Some.is at c.measure.ensures) c.gap_behind-gap.ensures

pub returns : goal.returns
returns c =
    release_done c.args.src.now c.args.way c.args.queue.now c.args.fmt.now c.args.out.now (goes c.stopped.ensures c.if-stopped.false)
    _ _ c.gap_behind-gap.result (rw c.in-Some.is at c.measure.ensures) c.gap_behind-gap.ensures (c.passes.ensures.1 c.if-passes.false) c.write.ensures c.lay-end.ensures c.let_out.ensures
