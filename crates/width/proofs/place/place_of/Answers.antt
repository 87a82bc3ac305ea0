-- `width::place::place_of` meets its contract. The invariant: from here on the place is found where it is from the beginning on. Assumes nothing.
use Rattle.text.proofs.Base.{arith, ap, not}
use Rattle.width.proofs.PlaceLaws.{seek_dark, seek_end, seek_here, seek_white, seek_within}
use Rattle.width.proofs.place.place_of.Goals as goal
use Rattle.width.proofs.place.place_of.Goals.{then-not-is_white+else-left-eq0, else-not-is_white}

pub returns-then-left-eq0 : goal.returns-then-left-eq0
returns-then-left-eq0 c = seek_here c.loop-i.invariant c.loop-i-test.true c.char_at-c.ensures c.is_white.ensures (ap not c.if-not-is_white.true) c.if-left-eq0.true

pub overflow_add-i : goal.overflow_add-i
overflow_add-i c = omega (arith, seek_within c.loop-i.invariant c.loop-i-test.true c.char_at-c.ensures c.is_white.ensures)

pub loop-i-preserved : goal.loop-i-preserved
loop-i-preserved c =
    let next = seek_dark c.loop-i.invariant c.loop-i-test.true c.char_at-c.ensures c.is_white.ensures in
    elim c.if-not-is_white.branch [
      | then-not-is_white+else-left-eq0 z ↦ rw z.left-is (next (ap not z.if-not-is_white.true) z.if-left-eq0.false)
      | else-not-is_white z ↦ rw z.left-is (seek_white c.loop-i.invariant c.loop-i-test.true c.char_at-c.ensures c.is_white.ensures (ap not z.if-not-is_white.false))
    ]

pub returns : goal.returns
returns c = seek_end c.loop-i.invariant c.loop-i-test.false
