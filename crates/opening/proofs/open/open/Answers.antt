-- `opening::open::open` meets its contract: the source decides, then the tree. Assumes nothing.
use Rattle.std.proofs.lemmas.Result.{err_from_is_err_and}
use Rattle.opening.proofs.OpenLaws.{by_source, by_tree}
use Rattle.opening.proofs.open.open.Goals as goal

pub returns-in_err-check : goal.returns-in_err-check
returns-in_err-check c =
    let p = err_from_is_err_and c.from_residual.result c.from_residual.ensures.1 in
    rw (p.1, p.2) (by_source _ _ c.check.ensures c.in_err-check.was)

pub returns-in_err-check-2 : goal.returns-in_err-check-2
returns-in_err-check-2 c =
    let p = err_from_is_err_and c.from_residual-in_err-check-2.result c.from_residual-in_err-check-2.ensures.1 in
    rw (p.1, p.2) (by_tree _ _ c.check.ensures c.in_ok-check.was c.check-2.ensures c.in_err-check-2.was)

pub returns : goal.returns
returns c = by_tree _ _ c.check.ensures c.in_ok-check.was c.check-2.ensures c.in_ok-check-2.was
