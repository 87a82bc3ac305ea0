-- `savetnuok::laid` meets its contract. Assumes nothing.
use Rattle.format.specs.Laid.{plan_of}
use Rattle.lent.specs.declared.formatter.Formatter.{Formatter}
use Rattle.meaning.specs.Opening.{script_in}
use Rattle.savetnuok.proofs.ExportLaws.{run_done, run_len, run_misshapen, run_refused, shape_sized}
use Rattle.savetnuok.proofs.RanLaws.{ran_done, ran_refused, wanted_tame}
use Rattle.steps.proofs.Rules.{◌∙◌, ap, arith, refl}
use Rattle.savetnuok.proofs.laid.Goals as goal

pub word-indent-requires : goal.word-indent-requires
word-indent-requires c = omega (arith, shape_sized _ _ c.shaped.ensures c.if-shaped.true)

pub read_now-now-requires : goal.read_now-now-requires
read_now-now-requires c = shape_sized _ _ c.shaped.ensures c.if-shaped.true

pub queue_in-queue-requires : goal.queue_in-queue-requires
queue_in-queue-requires c = shape_sized _ _ c.shaped.ensures c.if-shaped.true

pub run_in-requires : goal.run_in-requires
run_in-requires c = ap (λ (r : Formatter). r.answer) c.started-fmt.ensures ∙ c.opening.ensures

pub returns-then-stopped : goal.returns-then-stopped
returns-then-stopped c = run_refused c.args.source.now c.args.tree.now c.args.state.now c.args.out.now (plan_of (script_in c.args.source.now c.args.tree.now) c.args.w) (wanted_tame (script_in c.args.source.now c.args.tree.now) c.args.w) c.shaped.ensures c.if-shaped.true refl (rw c.read_now-now.ensures.0 at c.read_now-now.ensures.1) (ran_refused c.args.source.now c.args.tree.now c.args.state.now c.args.out.now c.args.w c.read_now-now.ensures.0 c.opening.ensures _ c.started-fmt.ensures c.queue_in-queue.ensures _ _ _ c.run_in.ensures c.run_in.auto.out c.stopped.ensures c.if-stopped.true c.zero_from.ensures) c.stopped.ensures c.if-stopped.true c.word-indent.ensures c.packed.ensures

pub write_state-requires : goal.write_state-requires
write_state-requires c = (shape_sized _ _ c.shaped.ensures c.if-shaped.true, rw c.now_of.ensures (run_len c.args.source.now c.args.tree.now c.args.state.now c.args.out.now (plan_of (script_in c.args.source.now c.args.tree.now) c.args.w) (wanted_tame (script_in c.args.source.now c.args.tree.now) c.args.w) c.shaped.ensures c.if-shaped.true refl (rw c.read_now-now.ensures.0 at c.read_now-now.ensures.1) (ran_done c.args.source.now c.args.tree.now c.args.state.now c.args.out.now c.args.w c.read_now-now.ensures.0 c.opening.ensures _ c.started-fmt.ensures c.queue_in-queue.ensures _ _ _ c.run_in.ensures c.run_in.auto.out c.stopped.ensures c.if-stopped.false c.tidy-waiting.ensures) c.stopped.ensures c.if-stopped.false))

pub returns-then-shaped : goal.returns-then-shaped
returns-then-shaped c = run_done c.args.source.now c.args.tree.now c.args.state.now c.args.out.now (plan_of (script_in c.args.source.now c.args.tree.now) c.args.w) (wanted_tame (script_in c.args.source.now c.args.tree.now) c.args.w) c.shaped.ensures c.if-shaped.true refl (rw c.read_now-now.ensures.0 at c.read_now-now.ensures.1) (ran_done c.args.source.now c.args.tree.now c.args.state.now c.args.out.now c.args.w c.read_now-now.ensures.0 c.opening.ensures _ c.started-fmt.ensures c.queue_in-queue.ensures _ _ _ c.run_in.ensures c.run_in.auto.out c.stopped.ensures c.if-stopped.false c.tidy-waiting.ensures) c.stopped.ensures c.if-stopped.false c.run_in.auto.out (rw c.now_of.ensures at c.write_state.ensures)

pub returns : goal.returns
returns c = run_misshapen c.args.source.now c.args.tree.now c.args.state.now c.args.out.now (plan_of (script_in c.args.source.now c.args.tree.now) c.args.w) (wanted_tame (script_in c.args.source.now c.args.tree.now) c.args.w) c.shaped.ensures c.if-shaped.false c.opening-2.ensures c.misshapen.ensures c.packed-2.ensures
