-- `lent::ring::tidy` meets its contract. The invariant: i comments from slot 0 on, and zero behind them. Assumes nothing.
use Rattle.text.proofs.Base.{◌≡◌, refl, ap, ◌∙◌, min, arith}
use Rattle.lent.proofs.SlotLaws.{filled, fill_start, fill_turn, fill_end}
use Rattle.lent.proofs.ring.tidy.Goals as goal

pub loop-i-init : goal.loop-i-init
loop-i-init c = fill_start c.args.queue.now c.args.head

pub loop-i-preserved : goal.loop-i-preserved
loop-i-preserved c = fill_turn c.args.queue.now c.args.head c.loop-i.i (omega (arith, c.loop-i-test.true, c.min-i-end.ensures)) refl c.comment_at-c.ensures c.store.ensures c.loop-i.invariant

pub returns : goal.returns
returns c =
    let all : c.loop-i.i ≡ min c.args.count 256 = omega (arith, c.loop-i-test.false, c.loop-i.auto.i-end, c.min-i-end.ensures) in
    fill_end c.args.queue.now c.args.head c.args.count (c.loop-i.invariant ∙ ap (filled c.args.queue.now c.args.head) all)
