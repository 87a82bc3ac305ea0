-- `width::place::place_in` meets its contract. Assumes nothing.
use Rattle.text.proofs.Base.{arith}
use Rattle.width.proofs.PlaceLaws.{place_inside}
use Rattle.width.proofs.place.place_in.Goals as goal

pub overflow_cast-result : goal.overflow_cast-result
overflow_cast-result c = omega (arith, place_inside c.args.src.now c.args.span _ c.part.ensures c.place_of-before.ensures)

pub overflow_add-result : goal.overflow_add-result
overflow_add-result c = omega (arith, place_inside c.args.src.now c.args.span _ c.part.ensures c.place_of-before.ensures)
