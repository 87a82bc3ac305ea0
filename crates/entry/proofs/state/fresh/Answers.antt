-- `entry::state::fresh` meets its contract. Assumes nothing.
use Rattle.text.proofs.Base.{refl}
use Rattle.lent.specs.View.{slots_of, slot_words}
use Rattle.entry.proofs.state.fresh.Goals as goal

pub returns : goal.returns
unfolding slots_of slot_words
returns c = refl
