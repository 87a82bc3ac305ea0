-- `savetnuok::savetnuok_open` meets its contract. Assumes nothing.
use Rattle.savetnuok.proofs.ExportLaws.{open_done, open_misshapen, open_refused}
use Rattle.steps.proofs.Rules.{arith}
use Rattle.savetnuok.proofs.savetnuok_open.Goals as goal

pub returns-then-state-ne-SIZE : goal.returns-then-state-ne-SIZE
returns-then-state-ne-SIZE c = open_misshapen c.args.source.now c.args.tree.now c.args.state.now c.opening-answer.ensures c.if-state-ne-SIZE.true c.misshapen.ensures c.packed.ensures

pub returns-then-refused : goal.returns-then-refused
returns-then-refused c = open_refused c.args.source.now c.args.tree.now c.args.state.now c.opening-answer.ensures c.if-state-ne-SIZE.false c.refused.ensures c.if-refused.true c.packed-then-refused.ensures

pub write_state-requires : goal.write_state-requires
write_state-requires c = (c.if-state-ne-SIZE.false, rw c.fresh-s.ensures (omega arith))

pub returns : goal.returns
returns c = open_done c.args.source.now c.args.tree.now c.args.state.now c.opening-answer.ensures c.if-state-ne-SIZE.false c.refused.ensures c.if-refused.false c.fresh-s.ensures c.write_state.ensures
