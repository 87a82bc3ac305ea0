-- `encoding::utf8::three` meets its contract: the table at a first byte of E0 to EF. Assumes nothing.
use Rattle.encoding.proofs.RowLaws.{char_three}
use mathlib.Core.Bool.{Bool, cond}
use mathlib.Core.Path.{◌∙◌, ap, sym}
use Rattle.encoding.proofs.utf8.three.Goals as goal

pub returns-then-two_behind : goal.returns-then-two_behind
returns-then-two_behind c =
    ap (λ (t : Bool). cond t 3 0) (sym c.if-two_behind.true ∙ c.two_behind.ensures)
    ∙ rw (c.lowest.ensures, c.highest.ensures) (sym (char_three c.requires))

pub returns-else-two_behind : goal.returns-else-two_behind
returns-else-two_behind c =
    ap (λ (t : Bool). cond t 3 0) (sym c.if-two_behind.false ∙ c.two_behind.ensures)
    ∙ rw (c.lowest.ensures, c.highest.ensures) (sym (char_three c.requires))
