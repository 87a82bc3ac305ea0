-- `tree::record::record_at` meets its contract: none there, a cut one, a leaf, a composite. Assumes nothing.
use Rattle.tree.proofs.RecordLaws.{body_big, body_le, record_cut, record_none, record_whole}
use borrow.Author.Tests.{le-ltb, lt-ltb}
use lib.ListN.{get_or}
use mathlib.Core.Path.{◌∙◌, sym}
use native.Mathlib.Omega.{arith}
use Rattle.tree.proofs.record.record_at.Goals as goal

pub returns-then-list-at : goal.returns-then-list-at
returns-then-list-at c = c.cut.ensures ∙ sym (record_none _ _ c.if-list-at.true)

pub returns-then-list-p : goal.returns-then-list-p
returns-then-list-p c = c.cut-then-list-p.ensures ∙ sym (record_cut c.args.list.now c.args.at (omega arith) (omega arith))

pub four_at-requires : goal.four_at-requires
four_at-requires c = omega (arith, body_le (get_or c.args.list.now c.args.at 0))

pub four_at-requires-2 : goal.four_at-requires-2
four_at-requires-2 c = omega (arith, body_le (get_or c.args.list.now c.args.at 0))

pub returns-then-kind-lt128 : goal.returns-then-kind-lt128
returns-then-kind-lt128 c =
    record_whole c.args.list.now c.args.at (omega arith) _ _ _ (omega arith) c.four_at.ensures
    c.four_at-2.ensures (rw (lt-ltb _ _ c.if-kind-lt128.true))

pub four_at-below-requires : goal.four_at-below-requires
four_at-below-requires c = omega (arith, body_big (get_or c.args.list.now c.args.at 0) c.if-kind-lt128.false)

pub returns-else-kind-lt128 : goal.returns-else-kind-lt128
returns-else-kind-lt128 c =
    record_whole c.args.list.now c.args.at (omega arith) _ _ _ (omega arith) c.four_at.ensures
    c.four_at-2.ensures (rw (le-ltb _ _ c.if-kind-lt128.false) c.four_at-below.ensures)
