-- `opening::levels::check` meets its contract. Assumes nothing.
use Rattle.std.proofs.lemmas.Result.{err_from_is_err_and}
use Rattle.opening.proofs.WalkLaws.{counts, not_many, refuses, whole_holds}
use native.Mathlib.Omega.{arith}
use Rattle.opening.proofs.levels.check.Goals as goal

pub level-requires : goal.level-requires
level-requires c = whole_holds c.count-n.ensures

pub returns-in_err-level : goal.returns-in_err-level
returns-in_err-level c =
    let p = err_from_is_err_and c.from_residual.result c.from_residual.ensures.1 in
    rw (p.1, p.2) (refuses c.count-n.ensures (λ i. omega (arith, c.type_inv.list i)) c.end_of-hi.ensures c.level.ensures c.in_err-level.was)

pub overflow_cast-result : goal.overflow_cast-result
overflow_cast-result c =
    omega (arith, not_many c.count-n.ensures (λ i. omega (arith, c.type_inv.list i)) c.end_of-hi.ensures c.level.ensures c.in_ok-level.was)

pub returns : goal.returns
returns c = counts c.count-n.ensures (λ i. omega (arith, c.type_inv.list i)) c.end_of-hi.ensures c.level.ensures c.in_ok-level.was
