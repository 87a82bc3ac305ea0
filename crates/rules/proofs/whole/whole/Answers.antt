-- `rules::whole::whole` meets its contract. Assumes nothing.
use Rattle.rules.specs.Whole.{whole}
use Rattle.lent.proofs.MadeLaws.{◌▹◌}
use Rattle.steps.proofs.Rules.{if_not, if_so}
use Rattle.rules.proofs.whole.whole.Goals as goal

pub returns-then-is_script : goal.returns-then-is_script
unfolding whole
returns-then-is_script c = if_so _ _ c.is_script.ensures c.if-is_script.true (c.flush_prefix_comments.ensures ▹ c.content.ensures ▹ c.nl.ensures ▹ c.finish.ensures)

pub returns : goal.returns
unfolding whole
returns c = if_not _ _ c.is_script.ensures c.if-is_script.false (c.refuse.ensures.ran _ c.args.queue.now c.args.out.now)
