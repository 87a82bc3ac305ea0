-- `wire::state_bytes::flags` meets its contract. Assumes nothing.
use mathlib.Core.Path.{◌∙◌, sym}
use Rattle.wire.proofs.StateLaws.{flags_five, flags_three, flags_two}
use Rattle.wire.proofs.state_bytes.flags.Goals as goal
use Rattle.wire.proofs.state_bytes.flags.Goals.{then-is_flag, else-is_flag}

pub returns-then-is_flag-2 : goal.returns-then-is_flag-2
returns-then-is_flag-2 c = elim c.if-is_flag.branch [
  | then-is_flag w ↦ flags_five c.args.state.now c.is_flag.ensures w.if-is_flag.true w.is_flag-then-is_flag.ensures (sym w.value-is ∙ c.if-is_flag-2.true) c.is_flag-then-is_flag-2.ensures
  | else-is_flag w ↦ (cc)
]

pub returns-else-is_flag-2 : goal.returns-else-is_flag-2
returns-else-is_flag-2 c = c.if-is_flag-2.false ∙ elim c.if-is_flag.branch [
  | then-is_flag w ↦ flags_three c.args.state.now c.is_flag.ensures w.if-is_flag.true w.is_flag-then-is_flag.ensures (sym w.value-is ∙ c.if-is_flag-2.false)
  | else-is_flag w ↦ flags_two c.args.state.now c.is_flag.ensures w.if-is_flag.false
]
