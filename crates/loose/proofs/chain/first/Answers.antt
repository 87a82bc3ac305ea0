-- `loose::chain::first` meets its contract. Assumes nothing.
use Rattle.loose.proofs.ChainLaws.{first_is}
use Rattle.text.proofs.Base.{rules}
use Rattle.loose.proofs.chain.first.Goals as goal

pub returns : goal.returns
returns c = first_is c.args.call c.map_or.ensures (λ x p. search rules)
