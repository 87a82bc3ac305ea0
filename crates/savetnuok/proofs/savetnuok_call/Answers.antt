-- `savetnuok::savetnuok_call` meets its contract. Assumes nothing.
use Rattle.savetnuok.proofs.ExportLaws.{call_done, call_len, call_misshapen, call_refused, shape_sized}
use Rattle.steps.proofs.Rules.{arith}
use Rattle.savetnuok.proofs.savetnuok_call.Goals as goal

pub word-indent-requires : goal.word-indent-requires
word-indent-requires c = omega (arith, shape_sized _ _ c.shaped.ensures c.if-shaped.true)

pub read_state-requires : goal.read_state-requires
read_state-requires c = shape_sized _ _ c.shaped.ensures c.if-shaped.true

pub returns-then-refused : goal.returns-then-refused
returns-then-refused c = call_refused c.args.source.now c.args.tree.now c.args.state.now c.args.out.now c.args.bytes.now c.shaped.ensures c.if-shaped.true c.read_state.ensures.0 c.read_state.ensures.1 c.record-step.ensures c.refused.ensures c.if-refused.true c.word-indent.ensures c.packed.ensures

pub write_state-requires : goal.write_state-requires
write_state-requires c = (shape_sized _ _ c.shaped.ensures c.if-shaped.true, call_len c.args.source.now c.args.tree.now c.args.state.now c.args.out.now c.args.bytes.now c.shaped.ensures c.if-shaped.true c.read_state.ensures.0 c.read_state.ensures.1 c.record-step.ensures c.refused.ensures c.if-refused.false)

pub returns-then-shaped : goal.returns-then-shaped
returns-then-shaped c = call_done c.args.source.now c.args.tree.now c.args.state.now c.args.out.now c.args.bytes.now c.shaped.ensures c.if-shaped.true c.read_state.ensures.0 c.read_state.ensures.1 c.record-step.ensures c.refused.ensures c.if-refused.false c.record-step.auto.out c.write_state.ensures

pub returns : goal.returns
returns c = call_misshapen c.args.source.now c.args.tree.now c.args.state.now c.args.out.now c.args.bytes.now c.shaped.ensures c.if-shaped.false c.opening.ensures c.misshapen.ensures c.packed-2.ensures
