-- `queue::release::release_one` meets its contract. Assumes nothing.
use Rattle.text.proofs.Base.{◌∙◌, sym, arith}
use Rattle.queue.proofs.{PassLaws.put_of, OneLaws.one_stops, OneLaws.one_past, OneLaws.one_over, OneLaws.one_done}
use Rattle.queue.proofs.release.release_one.Goals as goal

pub returns-then-stops : goal.returns-then-stops
returns-then-stops c =
    one_stops c.args.src.now c.args.way c.args.queue.now c.args.fmt.now c.args.out.now
    c.requires.0 c.requires.1 c.requires.2 c.comment_at-c.ensures (sym c.stops.ensures ∙ c.if-stops.true)

pub returns-then-passes : goal.returns-then-passes
returns-then-passes c =
    one_past c.args.src.now c.args.way c.args.queue.now c.args.fmt.now c.args.out.now
    c.requires.0 c.requires.1 c.requires.2 c.comment_at-c.ensures (sym c.stops.ensures ∙ c.if-stops.false) c.in_front.ensures (put_of _ _ _ c.gap_before-gap.result c.gap_before-gap.ensures c.letters-t.ensures)
    (sym c.passes.ensures.0 ∙ c.if-passes.true) c.refused.ensures

pub returns-then-passes-2 : goal.returns-then-passes-2
returns-then-passes-2 c =
    one_over c.args.src.now c.args.way c.args.queue.now c.args.fmt.now c.args.out.now
    c.requires.0 c.requires.1 c.requires.2 c.comment_at-c.ensures (sym c.stops.ensures ∙ c.if-stops.false) c.in_front.ensures (put_of _ _ _ c.gap_before-gap.result c.gap_before-gap.ensures c.letters-t.ensures)
    c.gap_behind-back.result (c.passes.ensures.1 c.if-passes.false) c.gap_behind-back.ensures (sym c.passes-2.ensures.0 ∙ c.if-passes-2.true) c.refused-then-passes-2.ensures

pub returns : goal.returns
returns c =
    one_done c.args.src.now c.args.way c.args.queue.now c.args.fmt.now c.args.out.now
    c.requires.0 c.requires.1 c.requires.2 c.comment_at-c.ensures (sym c.stops.ensures ∙ c.if-stops.false) c.in_front.ensures (put_of _ _ _ c.gap_before-gap.result c.gap_before-gap.ensures c.letters-t.ensures)
    c.gap_behind-back.result (c.passes.ensures.1 c.if-passes.false) c.gap_behind-back.ensures c.lay-to.ensures (omega (arith, c.lay-to.ensures.end, c.passes-2.ensures.1 c.if-passes-2.false)) c.lay-end.ensures c.let_out.ensures
