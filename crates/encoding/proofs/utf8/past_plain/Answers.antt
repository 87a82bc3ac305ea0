-- `encoding::utf8::past_plain` meets its contract. The invariant: nothing ill-formed has been passed. Assumes nothing.
use Rattle.encoding.proofs.WalkLaws.{past_byte, past_join}
use Rattle.encoding.specs.Walk.{Past}
use lib.ListN.{length}
use mathlib.Core.Path.{◌≡◌, subst}
use native.Mathlib.Omega.{arith}
use Rattle.encoding.proofs.utf8.past_plain.Goals as goal

pub past_blocks-short-requires : goal.past_blocks-short-requires
past_blocks-short-requires c = (c.past_blocks-long.ensures.within, omega arith)

pub loop-i-init : goal.loop-i-init
loop-i-init c = past_join c.past_blocks-long.ensures c.past_blocks-short.ensures

pub returns-then-s-i-ge128 : goal.returns-then-s-i-ge128
returns-then-s-i-ge128 c = record { past = c.loop-i.invariant; stops = λ h. c.if-s-i-ge128.true }

pub loop-i-preserved : goal.loop-i-preserved
loop-i-preserved c = past_byte c.loop-i.invariant c.loop-i-test.true c.if-s-i-ge128.false

pub returns : goal.returns
returns c =
    let e : c.loop-i.i ≡ length c.args.s.now = omega (arith, c.loop-i.invariant) in
    record { past = subst (Past c.args.s.now c.args.from) e c.loop-i.invariant; stops = λ h. absurd (omega arith) }
