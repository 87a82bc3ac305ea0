-- `loose::reason::crowd` meets its contract. The invariant: from here on the records say what they say from the first on. Assumes nothing.
use Rattle.loose.proofs.ReasonLaws.{crowd_comment, crowd_fits, crowd_next, crowd_sixth, crowd_starts, goes_behind, within}
use Rattle.text.proofs.Base.{arith, inl, inr}
use Rattle.kinds.specs.Facts.{byte_of, facts_of}
use Rattle.loose.proofs.reason.crowd.Goals as goal
use Rattle.loose.proofs.reason.crowd.Goals.{then-is_entry+else-entries-eq5, else-is_entry}

pub loop-at-init : goal.loop-at-init
loop-at-init c = crowd_starts (within _ c.args.k c.behind-end.ensures)

pub returns-then-kind-eq-LINE_COMMENT : goal.returns-then-kind-eq-LINE_COMMENT
unfolding byte_of facts_of
returns-then-kind-eq-LINE_COMMENT c = rw c.behind-end.ensures at (crowd_comment c.loop-at.invariant c.loop-at-test.true c.kind_at-kind.ensures c.if-kind-eq-LINE_COMMENT.true)

pub returns-then-entries-eq5 : goal.returns-then-entries-eq5
unfolding byte_of facts_of
returns-then-entries-eq5 c = rw c.behind-end.ensures at (crowd_sixth c.loop-at.invariant c.loop-at-test.true c.kind_at-kind.ensures c.if-kind-eq-LINE_COMMENT.false c.is_entry.ensures c.if-is_entry.true c.if-entries-eq5.true)

pub overflow_add-entries : goal.overflow_add-entries
overflow_add-entries c = omega (arith, c.loop-at.invariant.few)

pub loop-at-smaller : goal.loop-at-smaller
loop-at-smaller c = omega (arith, goes_behind _ c.loop-at.invariant.inside c.loop-at-test.true c.behind-at.ensures, c.loop-at-test.true)

pub loop-at-preserved : goal.loop-at-preserved
unfolding byte_of facts_of
loop-at-preserved c =
    crowd_next c.loop-at.invariant c.loop-at-test.true c.kind_at-kind.ensures c.if-kind-eq-LINE_COMMENT.false c.is_entry.ensures (elim c.if-is_entry.branch [
      | then-is_entry+else-entries-eq5 z ↦ inl (z.if-is_entry.true, z.if-entries-eq5.false, z.entries-is)
      | else-is_entry z ↦ inr (z.if-is_entry.false, z.entries-is)
    ]) c.behind-at.ensures

pub returns : goal.returns
returns c = rw c.behind-end.ensures at (crowd_fits c.loop-at.invariant c.loop-at-test.false)
