-- `entry::checks::any_outside` meets its contract. The invariant: the rest says what the whole says. Assumes nothing.
use Rattle.text.proofs.Base.{◌∙◌, ap, sym}
use Rattle.meaning.specs.Lent.{any_outside}
use Rattle.entry.proofs.{LentLaws.outside_here, LentLaws.outside_more}
use Rattle.lent.proofs.{RingLaws.ring_next, TabLaws.tab_none}
use Rattle.entry.proofs.checks.any_outside.Goals as goal

pub loop-i-preserved : goal.loop-i-preserved
loop-i-preserved c =
    sym
    (outside_more _ _ _ _
    (ring_next c.args.queue.now c.args.head c.args.count c.loop-i.i _ c.loop-i-test.true
    c.comment_at.ensures)
    (sym c.in_source.ensures ∙ c.if-not-in_source.false))
    ∙ c.loop-i.invariant

pub returns-then-not-in_source : goal.returns-then-not-in_source
returns-then-not-in_source c =
    outside_here _ _ _ _
    (ring_next c.args.queue.now c.args.head c.args.count c.loop-i.i _ c.loop-i-test.true
    c.comment_at.ensures)
    (sym c.in_source.ensures ∙ c.if-not-in_source.true)
    ∙ c.loop-i.invariant

pub returns : goal.returns
returns c =
    ap (any_outside c.args.src.now) (sym (tab_none _ c.args.head c.args.count c.loop-i.i c.loop-i-test.false))
    ∙ c.loop-i.invariant
