-- `calls::write_owned` meets its contract. Assumes nothing.
use Rattle.text.proofs.Base.{◌∙◌, refl, sym}
use Rattle.lent.specs.{View.script_of}
use Rattle.lent.proofs.StopLaws.{goes}
use Rattle.calls.proofs.{CallLaws.acted_stopped, CallLaws.made_present, NodeLaws.owned_past, NodeLaws.owned_full, NodeLaws.owned_done}
use Rattle.calls.proofs.write_owned.Goals as goal

pub returns-then-stops_for : goal.returns-then-stops_for
returns-then-stops_for c =
    made_present c.stops_for.ensures refl
    (acted_stopped c.args.queue.now (sym c.stops_for.ensures.told ∙ c.if-stops_for.true))

pub returns-then-passes : goal.returns-then-passes
returns-then-passes c =
    made_present c.stops_for.ensures refl
    (owned_past (script_of c.args.src.now c.args.table.now) c.args.k c.due-gap.result _ c.args.queue.now c.args.out.now _ _ (goes c.stops_for.ensures.told c.if-stops_for.false) c.node.ensures c.text-t.ensures c.due-gap.ensures
    (sym c.passes.ensures.0 ∙ c.if-passes.true) c.refused.ensures)

pub returns-then-process_comments : goal.returns-then-process_comments
returns-then-process_comments c =
    made_present c.stops_for.ensures refl
    (owned_full (script_of c.args.src.now c.args.table.now) c.args.k c.due-gap.result _ c.args.queue.now c.args.out.now _ _ (goes c.stops_for.ensures.told c.if-stops_for.false) c.node.ensures c.text-t.ensures c.due-gap.ensures
    c.behind.ensures c.process_comments.ensures (sym c.passes.ensures.0 ∙ c.if-passes.false) c.if-process_comments.true)

pub returns : goal.returns
returns c =
    made_present c.stops_for.ensures refl
    (owned_done (script_of c.args.src.now c.args.table.now) c.args.k c.due-gap.result _ c.args.queue.now c.args.out.now _ _ (goes c.stops_for.ensures.told c.if-stops_for.false) c.node.ensures c.text-t.ensures c.due-gap.ensures
    c.behind.ensures c.process_comments.ensures (sym c.passes.ensures.0 ∙ c.if-passes.false) c.if-process_comments.false c.lay-to.ensures c.written.ensures)
