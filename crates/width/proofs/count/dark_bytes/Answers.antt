use Rattle.width.proofs.CountLaws.{at_most_one, dark_end, dark_next, plain_at}
use native.Mathlib.Omega.{arith}
use Rattle.width.proofs.count.dark_bytes.Goals as goal

pub loop-b-preserved : goal.loop-b-preserved
loop-b-preserved c =
    let s = c.args.s.now in
    let k = c.loop-b.b-index in
    let here = c.loop-b-test.true in
    let next = dark_next s k c.is_white_byte.result here (plain_at s k c.requires here) c.is_white_byte.ensures in
    (omega arith, omega (arith, next, c.loop-b.invariant.1, at_most_one c.is_white_byte.result))

pub returns : goal.returns
returns c = omega (arith, dark_end c.args.s.now c.loop-b.b-index (omega arith), c.loop-b.invariant.1)
