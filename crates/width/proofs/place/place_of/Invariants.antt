use Rattle.text.proofs.Base.{◌-◌, length}
use Rattle.width.proofs.PlaceLaws.{Seeking}
use Rattle.width.proofs.place.place_of.Given as goal

abbrev pub invariant-loop-i : goal.invariant-loop-i
invariant-loop-i l = Seeking l.t l.n l.i l.left

abbrev pub decreases-loop-i : goal.decreases-loop-i
decreases-loop-i l = length l.t - l.i
