-- `wire::state_bytes::shaped` meets its contract. Assumes nothing.
use mathlib.Core.Path.{◌∙◌}
use Rattle.wire.proofs.StateLaws.{shape_flags, shape_lines, shape_long, shape_sized}
use Rattle.wire.proofs.state_bytes.shaped.Goals as goal
use Rattle.wire.proofs.state_bytes.shaped.Goals.{then-state-ne-SIZE-via-then-state-ne-SIZE, then-state-ne-SIZE-via-else-state-ne-SIZE+then-cap-gt4294967295}

pub returns-then-state-ne-SIZE : goal.returns-then-state-ne-SIZE
returns-then-state-ne-SIZE c = elim c.then-state-ne-SIZE.branch [
  | then-state-ne-SIZE-via-then-state-ne-SIZE w ↦ shape_sized _ _ w.if-state-ne-SIZE.true
  | then-state-ne-SIZE-via-else-state-ne-SIZE+then-cap-gt4294967295 w ↦ shape_long _ _ w.if-state-ne-SIZE.false w.if-cap-gt4294967295.true
]

pub returns-then-flags : goal.returns-then-flags
returns-then-flags c =
    shape_lines _ _ c.if-state-ne-SIZE.false c.if-cap-gt4294967295.false c.flags.ensures c.if-flags.true c.waiting.ensures.0
    c.line_flags.ensures

pub returns-else-flags : goal.returns-else-flags
returns-else-flags c = c.if-flags.false ∙ shape_flags _ _ c.if-state-ne-SIZE.false c.if-cap-gt4294967295.false c.flags.ensures c.if-flags.false
