-- `wire::word::write` meets its contract. The invariant: i words are written, and the rest is as it was. Assumes nothing.
use Rattle.wire.proofs.WordLaws.{write_end, write_start, write_turn}
use mathlib.Core.Path.{refl}
use native.Mathlib.Omega.{arith}
use Rattle.wire.proofs.word.write.Goals as goal

pub loop-i-init : goal.loop-i-init
loop-i-init c = write_start c.requires

pub put-requires : goal.put-requires
put-requires c = omega (arith, c.loop-i.invariant.long, c.loop-i.invariant.room)

pub loop-i-preserved : goal.loop-i-preserved
loop-i-preserved c = write_turn c.loop-i.invariant c.loop-i-test.true refl c.put.auto.to c.put.ensures

pub shape_of-to : goal.shape_of-to
shape_of-to c = c.loop-i.invariant.long

pub returns : goal.returns
returns c = write_end c.loop-i.invariant c.loop-i-test.false (λ k. omega (arith, c.type_inv.words k))
