-- `encoding::utf8::in_range` meets its contract. Assumes nothing.
use Rattle.encoding.proofs.RowLaws.{all_none, all_one}
use Rattle.encoding.specs.Utf8.{◌⋯◌}
use borrow.Author.Tests.{le-ltb}
use mathlib.Core.Bool.{false≢true}
use mathlib.Core.List.{[]}
use mathlib.Core.Path.{◌∙◌, sym}
use Rattle.encoding.proofs.utf8.in_range.Goals as goal
use Rattle.encoding.proofs.utf8.in_range.Goals.{then-i-s, else-i-s}

pub returns-then-lo-s : goal.returns-then-lo-s
returns-then-lo-s c = elim c.if-i-s.branch [
  | then-i-s w ↦ sym (all_one (c.args.lo ⋯ c.args.hi) c.args.s.now c.args.i w.if-i-s.true ∙ rw (sym w.value-is ∙ c.if-lo-s.true))
  | else-i-s w ↦ absurd (false≢true (sym (w.value-is ∙ le-ltb _ _ w.if-i-s.false) ∙ c.if-lo-s.true))
]

pub returns-else-lo-s : goal.returns-else-lo-s
returns-else-lo-s c = elim c.if-i-s.branch [
  | then-i-s w ↦ c.if-lo-s.false ∙ sym (all_one (c.args.lo ⋯ c.args.hi) c.args.s.now c.args.i w.if-i-s.true ∙ rw (sym w.value-is ∙ c.if-lo-s.false))
  | else-i-s w ↦ c.if-lo-s.false ∙ sym (all_none (c.args.lo ⋯ c.args.hi) [] c.args.s.now c.args.i w.if-i-s.false)
]
