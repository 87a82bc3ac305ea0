-- `loose::chain::dot_behind` meets its contract. The invariant: from here on, with so many still to pass, the records say what they say behind the head. Assumes nothing.
use Rattle.loose.proofs.ChainLaws.{dot_found, dot_next, dot_none, dot_starts}
use Rattle.loose.proofs.ReasonLaws.{goes_behind, within}
use Rattle.loose.specs.Chain.{is_dot}
use Rattle.text.proofs.Base.{◌∙◌, ap, arith, inl, inr, sym}
use Rattle.loose.proofs.chain.dot_behind.Goals as goal
use Rattle.loose.proofs.chain.dot_behind.Goals.{else-left-eq0-via-then-left-eq0+else-is_dot, else-left-eq0-via-else-left-eq0}

pub loop-at-init : goal.loop-at-init
loop-at-init c = dot_starts (within _ c.args.k c.behind-end.ensures)

pub returns-then-is_dot : goal.returns-then-is_dot
returns-then-is_dot c = rw (c.behind-end.ensures, c.behind-at.ensures) at (dot_found c.loop-at.invariant c.loop-at-test.true c.if-left-eq0.true c.kind_at.ensures c.is_dot.ensures c.if-is_dot.true)

pub loop-at-smaller : goal.loop-at-smaller
loop-at-smaller c = omega (arith, goes_behind _ c.loop-at.invariant.inside c.loop-at-test.true c.behind-at-in-loop-at.ensures, c.loop-at-test.true)

pub loop-at-preserved : goal.loop-at-preserved
loop-at-preserved c =
    dot_next c.loop-at.invariant c.loop-at-test.true (elim c.else-left-eq0.branch [
      | else-left-eq0-via-then-left-eq0+else-is_dot z ↦ inl (z.if-left-eq0.true, ap is_dot (sym z.kind_at.ensures) ∙ sym z.is_dot.ensures ∙ z.if-is_dot.false)
      | else-left-eq0-via-else-left-eq0 z ↦ inr z.if-left-eq0.false
    ]) c.saturating_sub-left.ensures c.behind-at-in-loop-at.ensures

pub returns : goal.returns
returns c = rw (c.behind-end.ensures, c.behind-at.ensures) at (dot_none c.loop-at.invariant c.loop-at-test.false)
