-- The invariant: what was passed is tallied, and is not over `left`.
use Rattle.width.proofs.CountLaws.{at_most_one, tally_char, tally_join}
use native.Mathlib.Omega.{arith}
use Rattle.width.proofs.count.over_wide.Goals as goal

pub overflow_add-i : goal.overflow_add-i
overflow_add-i c = omega (arith, (tally_char c.loop-i-test.true c.char_at-c.ensures c.is_white.ensures).within)

pub loop-i-preserved : goal.loop-i-preserved
loop-i-preserved c =
    let one = tally_char c.loop-i-test.true c.char_at-c.ensures c.is_white.ensures in
    (tally_join c.loop-i.invariant.0 one, omega (arith, c.if-n-left.true, at_most_one c.is_white.result))
