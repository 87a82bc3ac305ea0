use Rattle.text.proofs.Base.{◌≡◌}
use Rattle.lent.proofs.SlotLaws.{filled}
use Rattle.lent.proofs.ring.tidy.Given as goal

abbrev pub invariant-loop-i : goal.invariant-loop-i
invariant-loop-i l = l.to ≡ filled l.queue l.head l.i
