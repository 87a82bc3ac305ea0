-- `encoding::utf8::two` meets its contract: the table at a first byte of 80 to DF. Assumes nothing.
use Rattle.encoding.proofs.RowLaws.{char_two}
use borrow.Author.Tests.{le-ltb, lt-ltb}
use mathlib.Core.Bool.{Bool, cond}
use mathlib.Core.Path.{◌∙◌, ap, sym}
use Rattle.encoding.proofs.utf8.two.Goals as goal
use Rattle.encoding.proofs.utf8.two.Goals.{else-s-i-ge194-via-then-s-i-ge194+else-in_range, else-s-i-ge194-via-else-s-i-ge194}

pub returns-then-in_range : goal.returns-then-in_range
returns-then-in_range c =
    ap (λ (t : Bool). cond t 2 0) (sym c.if-in_range.true ∙ c.in_range.ensures)
    ∙ sym (rw (le-ltb _ _ c.if-s-i-ge194.true) at (char_two c.requires))

pub returns-else-s-i-ge194 : goal.returns-else-s-i-ge194
returns-else-s-i-ge194 c = elim c.else-s-i-ge194.branch [
  | else-s-i-ge194-via-then-s-i-ge194+else-in_range w ↦ ap (λ (t : Bool). cond t 2 0) (sym w.if-in_range.false ∙ w.in_range.ensures)
      ∙ sym (rw (le-ltb _ _ w.if-s-i-ge194.true) at (char_two c.requires))
  | else-s-i-ge194-via-else-s-i-ge194 w ↦ sym (rw (lt-ltb _ _ w.if-s-i-ge194.false) at (char_two c.requires))
]
