-- `encoding::utf8::four` meets its contract: the table at a first byte of F0 or above. Assumes nothing.
use Rattle.encoding.proofs.RowLaws.{all_three, char_four}
use Rattle.encoding.specs.Utf8.{◌⋯◌, cont}
use borrow.Author.Tests.{le-ltb, lt-ltb}
use mathlib.Core.Bool.{Bool, cond, false, true}
use mathlib.Core.Path.{◌∙◌, ap, refl, sym}
use Rattle.encoding.proofs.utf8.four.Goals as goal
use Rattle.encoding.proofs.utf8.four.Goals.{else-b-le244-via-then-b-le244+then-two_behind+else-in_range, else-b-le244-via-then-b-le244+else-two_behind, else-b-le244-via-else-b-le244}

pub returns-then-in_range : goal.returns-then-in_range
returns-then-in_range c =
    ap (λ (t : Bool). cond t 4 0)
    (all_three (c.lowest.result ⋯ c.highest.result) cont cont c.args.s.now c.args.i true true (sym c.if-two_behind.true ∙ c.two_behind.ensures)
    (sym c.if-in_range.true ∙ c.in_range.ensures))
    ∙ rw (c.lowest.ensures, c.highest.ensures) (sym (rw (le-ltb _ _ c.if-b-le244.true) at (char_four c.requires)))

pub returns-else-b-le244 : goal.returns-else-b-le244
returns-else-b-le244 c = elim c.else-b-le244.branch [
  | else-b-le244-via-then-b-le244+then-two_behind+else-in_range w ↦
      ap (λ (t : Bool). cond t 4 0)
      (all_three (w.lowest.result ⋯ w.highest.result) cont cont c.args.s.now c.args.i true false (sym w.if-two_behind.true ∙ w.two_behind.ensures)
      (sym w.if-in_range.false ∙ w.in_range.ensures))
      ∙ rw (w.lowest.ensures, w.highest.ensures) (sym (rw (le-ltb _ _ w.if-b-le244.true) at (char_four c.requires)))
  | else-b-le244-via-then-b-le244+else-two_behind w ↦
      ap (λ (t : Bool). cond t 4 0)
      (all_three (w.lowest.result ⋯ w.highest.result) cont cont c.args.s.now c.args.i false _ (sym w.if-two_behind.false ∙ w.two_behind.ensures) refl)
      ∙ rw (w.lowest.ensures, w.highest.ensures) (sym (rw (le-ltb _ _ w.if-b-le244.true) at (char_four c.requires)))
  | else-b-le244-via-else-b-le244 w ↦ sym (rw (lt-ltb _ _ w.if-b-le244.false) at (char_four c.requires))
]
