-- `steps::items::close_list` meets its contract. Assumes nothing.
use Rattle.steps.proofs.{ItemLaws.closing_yes, ItemLaws.closing_no}
use Rattle.steps.proofs.items.close_list.Goals as goal

pub returns-then-not-says : goal.returns-then-not-says
returns-then-not-says c = closing_no _ (c.says.ensures _) (c.pass.ensures _) c.if-not-says.true c.comments.ensures

pub returns-else-not-says : goal.returns-else-not-says
returns-else-not-says c = closing_yes _ (c.says.ensures _) (c.pass.ensures _) c.if-not-says.false
