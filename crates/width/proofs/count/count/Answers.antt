-- `width::count::count` meets its contract. The invariant: what was passed is tallied, and not over the limit. Assumes nothing.
use Rattle.width.proofs.CountLaws.{at_most_one, char_moves, count_end, count_over, tally_char, tally_join, tally_turn}
use native.Mathlib.Omega.{arith}
use Rattle.width.proofs.count.count.Goals as goal

-- what a turn passes: one character, those of several bytes behind it, the plain ones
pub overflow_add-i : goal.overflow_add-i
overflow_add-i c = omega (arith, (tally_char c.loop-i-test.true c.char_at-c.ensures c.is_white.ensures).within)

pub over_wide-wide-requires : goal.over_wide-wide-requires
over_wide-wide-requires c = (tally_char c.loop-i-test.true c.char_at-c.ensures c.is_white.ensures).within

pub overflow_add-n-in-loop-i : goal.overflow_add-n-in-loop-i
overflow_add-n-in-loop-i c = omega (arith, c.over_wide-wide.ensures.1, c.loop-i.invariant.1, at_most_one c.is_white.result)

pub overflow_sub-above-in-loop-i : goal.overflow_sub-above-in-loop-i
overflow_sub-above-in-loop-i c = omega (arith, c.over_wide-wide.ensures.1, c.loop-i.invariant.1, at_most_one c.is_white.result)

pub overflow_add-n-in-loop-i-2 : goal.overflow_add-n-in-loop-i-2
overflow_add-n-in-loop-i-2 c =
    let wide = tally_turn c.loop-i.invariant.0 c.loop-i-test.true c.char_at-c.ensures c.is_white.ensures c.over_wide-wide.ensures.0 in
    omega (arith, tally_join wide c.over_plain-plain.ensures)

pub returns-then-above-n : goal.returns-then-above-n
returns-then-above-n c =
    let wide = tally_turn c.loop-i.invariant.0 c.loop-i-test.true c.char_at-c.ensures c.is_white.ensures c.over_wide-wide.ensures.0 in
    count_over _ (tally_join wide c.over_plain-plain.ensures) c.if-above-n.true

pub loop-i-smaller : goal.loop-i-smaller
loop-i-smaller c = omega (arith, char_moves _ c.loop-i.i c.char_at-c.ensures, c.over_wide-wide.ensures.0, c.over_plain-plain.ensures, c.loop-i-test.true)

pub loop-i-preserved : goal.loop-i-preserved
loop-i-preserved c =
    let wide = tally_turn c.loop-i.invariant.0 c.loop-i-test.true c.char_at-c.ensures c.is_white.ensures c.over_wide-wide.ensures.0 in
    (tally_join wide c.over_plain-plain.ensures, omega (arith, c.if-above-n.false))

pub returns : goal.returns
returns c = count_end c.loop-i.invariant.0 c.loop-i.invariant.1 c.loop-i-test.false
