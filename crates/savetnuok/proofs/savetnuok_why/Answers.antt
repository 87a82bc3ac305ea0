-- `savetnuok::savetnuok_why` meets its contract. Assumes nothing.
use Rattle.reasons.proofs.Laws.{told_fits, told_number}
use Rattle.savetnuok.proofs.savetnuok_why.Goals as goal

pub returns : goal.returns
returns c =
    let one = rw c.why_in.ensures at c.in_one.ensures in
    record {
      answer = told_number c.args.source.now c.args.tree.now (record { 0 = c.args.node }) one;
      place_fits = told_fits c.args.source.now c.args.tree.now (record { 0 = c.args.node }) one;
    }
