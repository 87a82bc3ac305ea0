-- `opening::levels::level` meets its contract. The loop's invariant: the siblings that are left say what all of them say.
use mathlib.Core.Path.{refl}
use native.Mathlib.Omega.{arith}
use Rattle.std.proofs.lemmas.Result.{err_from_is_err_and}
use Rattle.opening.proofs.WalkLaws.{done, meets, bad_one, too_deep, inside_asks, inside_holds, none_below, refused_below, behind_asks, goes_on}
use Rattle.opening.proofs.levels.+level.Goals as goal

pub returns-in_err-look : goal.returns-in_err-look
returns-in_err-look t c =
    let p = err_from_is_err_and c.from_residual.result c.from_residual.ensures.1 in
    rw (p.1, p.2) (bad_one c.loop-part.invariant c.loop-part-test.true c.record_at-r.ensures c.look.ensures c.in_err-look.was)

pub returns-then-d-eq0 : goal.returns-then-d-eq0
returns-then-d-eq0 t c =
    let m = meets c.loop-part.invariant c.loop-part-test.true c.record_at-r.ensures c.look.ensures c.in_ok-look.was in
    too_deep m c.if-d-eq0.true

pub inside-below-requires : goal.inside-below-requires
inside-below-requires t c =
    let m = meets c.loop-part.invariant c.loop-part-test.true c.record_at-r.ensures c.look.ensures c.in_ok-look.was in
    inside_asks m (omega (arith, c.well_formed))

pub behind-part-requires : goal.behind-part-requires
behind-part-requires t c =
    let m = meets c.loop-part.invariant c.loop-part-test.true c.record_at-r.ensures c.look.ensures c.in_ok-look.was in
    behind_asks m c.if-d-eq0.false c.inside-below.ensures
    (none_below m c.inside-below.ensures c.if-below-eq0.true) refl

pub loop-part-preserved-then-below-eq0 : goal.loop-part-preserved-then-below-eq0
loop-part-preserved-then-below-eq0 t c =
    let m = meets c.loop-part.invariant c.loop-part-test.true c.record_at-r.ensures c.look.ensures c.in_ok-look.was in
    goes_on m c.if-d-eq0.false c.inside-below.ensures (none_below m c.inside-below.ensures c.if-below-eq0.true) refl
    c.behind-part.ensures

pub level-requires : goal.level-requires
level-requires t c =
    let m = meets c.loop-part.invariant c.loop-part-test.true c.record_at-r.ensures c.look.ensures c.in_ok-look.was in (
      omega arith,
      inside_holds m c.inside-below.ensures,
    )

pub returns-in_err-level : goal.returns-in_err-level
returns-in_err-level t c =
    let m = meets c.loop-part.invariant c.loop-part-test.true c.record_at-r.ensures c.look.ensures c.in_ok-look.was in
    let p = err_from_is_err_and c.from_residual-in_err-level.result c.from_residual-in_err-level.ensures.1 in
    rw (p.1, p.2) (refused_below m c.if-d-eq0.false c.inside-below.ensures c.level.ensures c.in_err-level.was)

pub behind-part-requires-else-below-eq0 : goal.behind-part-requires-else-below-eq0
behind-part-requires-else-below-eq0 t c =
    let m = meets c.loop-part.invariant c.loop-part-test.true c.record_at-r.ensures c.look.ensures c.in_ok-look.was in
    behind_asks m c.if-d-eq0.false c.inside-below.ensures c.level.ensures c.in_ok-level.was

pub loop-part-preserved : goal.loop-part-preserved
loop-part-preserved t c =
    let m = meets c.loop-part.invariant c.loop-part-test.true c.record_at-r.ensures c.look.ensures c.in_ok-look.was in
    goes_on m c.if-d-eq0.false c.inside-below.ensures c.level.ensures c.in_ok-level.was c.behind-part-else-below-eq0.ensures

pub returns : goal.returns
returns t c = done c.loop-part.invariant (omega arith)
