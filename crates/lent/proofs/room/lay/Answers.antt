-- `lent::room::lay` meets its contract. Three writes, one behind the other. Assumes nothing.
use Rattle.text.proofs.Base.{arith}
use Rattle.lent.proofs.{WriteLaws.lay_law}
use Rattle.lent.proofs.room.lay.Goals as goal

pub returns : goal.returns
returns c =
    record {
      end = omega arith;
      bytes = lay_law c.args.out.now _ _ _ c.args.t.now c.args.at c.args.gap c.fill.ensures c.fill-2.ensures c.copy.ensures;
    }
