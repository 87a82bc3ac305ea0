-- `calls::ignore` meets its contract. Assumes nothing.
use Rattle.text.proofs.Base.{◌∙◌, refl, sym}
use Rattle.lent.specs.View.{script_of}
use Rattle.lent.proofs.StopLaws.{goes}
use Rattle.calls.proofs.{CallLaws.acted_stopped, CallLaws.ignore_is, CallLaws.made_present}
use Rattle.calls.proofs.ignore.Goals as goal

pub returns-then-stops_for : goal.returns-then-stops_for
returns-then-stops_for c =
    made_present c.stops_for.ensures refl
    (acted_stopped c.args.queue.now (sym c.stops_for.ensures.told ∙ c.if-stops_for.true))

pub returns : goal.returns
returns c =
    made_present c.stops_for.ensures refl
    (ignore_is (script_of c.args.src.now c.args.table.now) c.args.k c.args.out.now _ (goes c.stops_for.ensures.told c.if-stops_for.false) c.behind.ensures refl c.process_comments.ensures)
