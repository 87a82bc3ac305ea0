-- `calls::indent` meets its contract. Assumes nothing.
use Rattle.text.proofs.Base.{◌∙◌, refl, sym}
use Rattle.lent.proofs.StopLaws.{goes}
use Rattle.calls.proofs.CallLaws.{acted_stopped, indent_down, indent_over, indent_under, indent_up, made_ready}
use Rattle.calls.proofs.indent.Goals as goal

pub returns-then-stops : goal.returns-then-stops
returns-then-stops c =
    made_ready c.stops.ensures refl
    (acted_stopped c.args.queue.now (sym c.stops.ensures.told ∙ c.if-stops.true))

pub returns-then-i-b-gt64 : goal.returns-then-i-b-gt64
returns-then-i-b-gt64 c =
    made_ready c.stops.ensures refl
    (indent_over c.args.queue.now (goes c.stops.ensures.told c.if-stops.false) c.if-b-lt128.true c.if-i-b-gt64.true c.refused.ensures)

pub returns-then-b-lt128 : goal.returns-then-b-lt128
returns-then-b-lt128 c =
    made_ready c.stops.ensures refl
    (indent_up c.args.queue.now (goes c.stops.ensures.told c.if-stops.false) c.if-b-lt128.true c.if-i-b-gt64.false refl)

pub returns-then-i-b : goal.returns-then-i-b
returns-then-i-b c =
    made_ready c.stops.ensures refl
    (indent_under c.args.queue.now (goes c.stops.ensures.told c.if-stops.false) c.if-b-lt128.false c.if-i-b.true c.refused-then-i-b.ensures)

pub returns : goal.returns
returns c =
    made_ready c.stops.ensures refl
    (indent_down c.args.queue.now (goes c.stops.ensures.told c.if-stops.false) c.if-b-lt128.false c.if-i-b.false refl)
