-- `parts::lone::no_item` meets its contract. Assumes nothing.
use Rattle.parts.specs.Lone.{no_item}
use Rattle.text.proofs.Base.{le-ltb, lt-ltb}
use Rattle.parts.proofs.lone.no_item.Goals as goal

pub returns-then-kind_at-lt128 : goal.returns-then-kind_at-lt128
unfolding no_item
returns-then-kind_at-lt128 c = rw (← c.kind_at.ensures, lt-ltb _ _ c.if-kind_at-lt128.true) c.refuse.ensures

pub returns : goal.returns
unfolding no_item
returns c = rw (← c.kind_at.ensures, le-ltb _ _ c.if-kind_at-lt128.false) c.refuse-2.ensures
