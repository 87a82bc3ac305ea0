use Rattle.text.proofs.Base.{◌+◌, ◌≤◌, drop, length, ◌≡◌}
use lib.Seq.{sets}
use Rattle.lent.proofs.room.copy.Given as goal

abbrev pub invariant-loop-i : goal.invariant-loop-i
invariant-loop-i l = (l.at + length l.t ≤ length l.out) × (sets l.out (l.at + l.i) (drop l.i l.t) ≡ sets l.initial.out l.at l.t)
