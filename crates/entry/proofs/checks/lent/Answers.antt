-- `entry::checks::lent` meets its contract. Each check in turn. Assumes nothing.
use Rattle.text.proofs.Base.{◌∙◌, sym}
use Rattle.lent.proofs.StopLaws.{goes}
use Rattle.entry.proofs.LentLaws.{lent_deep, lent_good, lent_many, lent_outside, lent_past, lent_stopped}
use Rattle.entry.proofs.checks.lent.Goals as goal

pub returns-then-stopped : goal.returns-then-stopped
returns-then-stopped c = lent_stopped _ _ _ _ (sym c.stopped.ensures ∙ c.if-stopped.true)

pub returns-then-cap-fmt : goal.returns-then-cap-fmt
returns-then-cap-fmt c = lent_past c.args.src.now c.args.queue.now c.args.cap _ (goes c.stopped.ensures c.if-stopped.false) c.if-cap-fmt.true c.refused.ensures

pub returns-then-fmt-gt256 : goal.returns-then-fmt-gt256
returns-then-fmt-gt256 c = lent_many c.args.src.now c.args.queue.now c.args.cap _ (goes c.stopped.ensures c.if-stopped.false) c.if-cap-fmt.false c.if-fmt-gt256.true c.refused-then-fmt-gt256.ensures

pub returns-then-any_outside : goal.returns-then-any_outside
returns-then-any_outside c = lent_outside c.args.src.now c.args.queue.now c.args.cap _ (goes c.stopped.ensures c.if-stopped.false) c.if-cap-fmt.false c.if-fmt-gt256.false c.any_outside.ensures c.if-any_outside.true c.refused-then-any_outside.ensures

pub returns-then-fmt-gt64 : goal.returns-then-fmt-gt64
returns-then-fmt-gt64 c =
    lent_deep c.args.src.now c.args.queue.now c.args.cap _ (goes c.stopped.ensures c.if-stopped.false) c.if-cap-fmt.false c.if-fmt-gt256.false c.any_outside.ensures
    c.if-any_outside.false c.if-fmt-gt64.true c.refused-then-fmt-gt64.ensures

pub returns-else-fmt-gt64 : goal.returns-else-fmt-gt64
returns-else-fmt-gt64 c =
    lent_good c.args.src.now c.args.queue.now c.args.cap _ (goes c.stopped.ensures c.if-stopped.false) c.if-cap-fmt.false c.if-fmt-gt256.false c.any_outside.ensures
    c.if-any_outside.false c.if-fmt-gt64.false
