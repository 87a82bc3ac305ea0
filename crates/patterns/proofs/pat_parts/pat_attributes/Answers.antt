-- `patterns::pat_parts::pat_attributes` meets its contract. Assumes nothing.
use Rattle.steps.proofs.Rules.{byte_of, facts_of, Ws, make, write, ◌▹◌}
use Rattle.steps.proofs.Rules.{steady, kept_length, starts, goes_on, done, falls, pump_then_falls}
use Rattle.patterns.specs.Pattern.{pat_attributes}
use Rattle.patterns.proofs.pat_parts.pat_attributes.Goals as goal

pub returns : goal.returns
unfolding pat_attributes byte_of facts_of
returns c = done c.next_is.ensures c.loop-fmt-test.false c.loop-fmt.invariant

pub loop-fmt-init : goal.loop-fmt-init
loop-fmt-init c = starts

pub loop-fmt-smaller : goal.loop-fmt-smaller
unfolding byte_of facts_of
loop-fmt-smaller c = falls (pump_then_falls _ write (make Ws)) c.next_is.ensures c.loop-fmt-test.true (c.any.ensures ▹ steady c.ws.ensures)

pub loop-fmt-preserved : goal.loop-fmt-preserved
unfolding byte_of facts_of
loop-fmt-preserved c = goes_on (pump_then_falls _ write (make Ws)) c.next_is.ensures c.loop-fmt-test.true (c.any.ensures ▹ steady c.ws.ensures) c.loop-fmt.invariant

pub shape_of-out : goal.shape_of-out
shape_of-out c = kept_length (returns c)
