-- `steps::items::behind_item` meets its contract. Assumes nothing.
use Rattle.steps.proofs.{RestLaws.rests_with}
use Rattle.steps.proofs.items.behind_item.Goals as goal

pub returns : goal.returns
returns c = rests_with _ c.take_remaining-comma.ensures c.comments.ensures
