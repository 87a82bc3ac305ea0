-- `steps::items::before_item` meets its contract. Assumes nothing.
use Rattle.lent.proofs.MadeLaws.{◌▹◌}
use Rattle.steps.proofs.{ItemLaws.separated_yes, ItemLaws.separated_no}
use Rattle.steps.proofs.items.before_item.Goals as goal

pub returns-then-says : goal.returns-then-says
returns-then-says c = c.comments.ensures ▹ separated_yes _ (c.says.ensures _) c.put.ensures c.if-says.true c.ws.ensures

pub returns-else-says : goal.returns-else-says
returns-else-says c = c.comments.ensures ▹ separated_no _ (c.says.ensures _) c.put.ensures c.if-says.false
