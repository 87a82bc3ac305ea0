-- `opening::levels::inside` meets its contract. Assumes nothing.
use native.Mathlib.Omega.{arith}
use Rattle.opening.proofs.levels.inside.Goals as goal

pub overflow_add-result-2 : goal.overflow_add-result-2
overflow_add-result-2 c = omega (arith, c.body.ensures)

pub returns : goal.returns
returns c = cc
