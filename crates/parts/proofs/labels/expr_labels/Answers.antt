-- `parts::labels::expr_labels` meets its contract. Assumes nothing.
use Rattle.parts.proofs.LabelLaws.{labels_fall}
use Rattle.parts.specs.Labels.{expr_labels}
use Rattle.steps.proofs.Rules.{◌▹◌, byte_of, done, facts_of, falls, fmt, goes_on, is, kept_length, length}
use Rattle.steps.proofs.Rules.{put_remaining, starts, steady, tree_of}
use Rattle.parts.proofs.labels.expr_labels.Goals as goal

pub returns : goal.returns
unfolding expr_labels byte_of facts_of
returns c = done c.next_is.ensures c.loop-fmt-test.false c.loop-fmt.invariant

pub loop-fmt-init : goal.loop-fmt-init
loop-fmt-init c = starts

pub loop-fmt-smaller : goal.loop-fmt-smaller
unfolding byte_of facts_of
loop-fmt-smaller c = falls (labels_fall (tree_of c.args.table.now)) c.next_is.ensures c.loop-fmt-test.true (c.any.ensures ▹ c.put_remaining.ensures ▹ steady c.ws.ensures)

pub loop-fmt-preserved : goal.loop-fmt-preserved
unfolding byte_of facts_of
loop-fmt-preserved c = goes_on (labels_fall (tree_of c.args.table.now)) c.next_is.ensures c.loop-fmt-test.true (c.any.ensures ▹ c.put_remaining.ensures ▹ steady c.ws.ensures) c.loop-fmt.invariant

pub shape_of-out : goal.shape_of-out
shape_of-out c = kept_length (returns c)
