-- `paths::attribute::on_lines` meets its contract. Assumes nothing.
use Rattle.steps.proofs.Rules.{Nl, make, write, ◌▹◌}
use Rattle.steps.proofs.Rules.{steady, kept_length, starts, goes_on, done, falls, pump_then_falls}
use Rattle.paths.specs.Attribute.{on_lines}
use Rattle.paths.proofs.attribute.on_lines.Goals as goal

pub returns : goal.returns
unfolding on_lines
returns c = done c.next_is.ensures c.loop-kind-test.false c.loop-kind.invariant

pub loop-kind-init : goal.loop-kind-init
loop-kind-init c = starts

pub loop-kind-smaller : goal.loop-kind-smaller
loop-kind-smaller c = falls (pump_then_falls _ write (make (Nl 1))) c.next_is.ensures c.loop-kind-test.true (c.any.ensures ▹ steady c.nl.ensures)

pub loop-kind-preserved : goal.loop-kind-preserved
loop-kind-preserved c = goes_on (pump_then_falls _ write (make (Nl 1))) c.next_is.ensures c.loop-kind-test.true (c.any.ensures ▹ steady c.nl.ensures) c.loop-kind.invariant

pub shape_of-out : goal.shape_of-out
shape_of-out c = kept_length (returns c)
