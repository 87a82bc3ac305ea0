-- `queue::collect::met_at` meets its contract: by children, then by kind. Assumes nothing.
use Rattle.text.proofs.Base.{◌≡◌, ap, arith}
use Rattle.meaning.specs.Collect.{blank, met_of}
use Rattle.queue.proofs.{GatherLaws.at_inner, GatherLaws.at_stop}
use Rattle.queue.proofs.collect.met_at.Goals as goal

pub returns-then-r-gt0 : goal.returns-then-r-gt0
unfolding met_of
returns-then-r-gt0 c = at_inner _ _ _ _ c.if-r-gt0.true

pub returns-in-0 : goal.returns-in-0
unfolding met_of
returns-in-0 c =
    let z : c.args.r.below ≡ 0 = omega arith in
    rw (z, c.in-0.is) (ap blank c.newlines_in.ensures)

pub returns-in_default : goal.returns-in_default
unfolding met_of
returns-in_default c =
    let z : c.args.r.below ≡ 0 = omega arith in
    rw z (at_stop _ _ _ (omega arith))
