-- `lent::ring::push` meets its contract: a comment's words behind the last comment's. Assumes nothing.
use Rattle.text.proofs.Base.{rules}
use Rattle.lent.proofs.{RingLaws.push_law}
use Rattle.lent.specs.View.{as_comment}
use Rattle.lent.proofs.ring.push.Goals as goal

pub returns : goal.returns
returns c =
    rw c.store.ensures
    (push_law c.args.queue.now c.args.head c.args.count c.slot.result (as_comment c.args.c) (search rules)
    c.requires c.slot.ensures)
