-- `lent::room::copy` meets its contract. The invariant: the rest from here is the whole from the start. Assumes nothing.
use Rattle.text.proofs.Base.{◌∙◌, sym, rules}
use Rattle.lent.proofs.{WriteLaws.copy_end, WriteLaws.copy_turn}
use native.Mathlib.Nat.{add-zero}
use Rattle.lent.proofs.room.copy.Goals as goal

pub loop-i-init : goal.loop-i-init
loop-i-init c = (search rules, rw add-zero)

pub loop-i-preserved : goal.loop-i-preserved
loop-i-preserved c = (search rules, sym (copy_turn c.loop-i.out _ _ c.loop-i.i c.loop-i-test.true) ∙ c.loop-i.invariant.1)

pub returns : goal.returns
returns c = sym (copy_end _ _ _ _ c.loop-i-test.false) ∙ c.loop-i.invariant.1
