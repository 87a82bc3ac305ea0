-- `parts::leads::jump_labels` meets its contract. Assumes nothing.
use Rattle.parts.proofs.LabelLaws.{jumps_fall}
use Rattle.parts.specs.Leads.{jump_labels}
use Rattle.steps.proofs.Rules.{◌▹◌, byte_of, done, facts_of, falls, fmt, goes_on, is, kept_length, length}
use Rattle.steps.proofs.Rules.{starts, steady, tree_of}
use Rattle.parts.proofs.leads.jump_labels.Goals as goal

pub returns : goal.returns
unfolding jump_labels byte_of facts_of
returns c = done c.next_is.ensures c.loop-fmt-test.false c.loop-fmt.invariant

pub loop-fmt-init : goal.loop-fmt-init
loop-fmt-init c = starts

pub loop-fmt-smaller : goal.loop-fmt-smaller
unfolding byte_of facts_of
loop-fmt-smaller c = falls (jumps_fall (tree_of c.args.table.now)) c.next_is.ensures c.loop-fmt-test.true (steady c.ws.ensures ▹ c.any.ensures)

pub loop-fmt-preserved : goal.loop-fmt-preserved
unfolding byte_of facts_of
loop-fmt-preserved c = goes_on (jumps_fall (tree_of c.args.table.now)) c.next_is.ensures c.loop-fmt-test.true (steady c.ws.ensures ▹ c.any.ensures) c.loop-fmt.invariant

pub shape_of-out : goal.shape_of-out
shape_of-out c = kept_length (returns c)
