-- `lent::room::fill` meets its contract. Assumes nothing.
use Rattle.text.proofs.Base.{arith}
use Rattle.lent.proofs.WriteLaws.{fill_sets}
use Rattle.lent.proofs.room.fill.Goals as goal

pub returns : goal.returns
returns c = fill_sets _ _ _ _ _ (omega arith) c.requires (c.fill.ensures.after (λ y e. e))
