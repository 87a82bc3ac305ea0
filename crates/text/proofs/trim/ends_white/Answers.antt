-- `text::trim::ends_white` meets its contract. Assumes nothing.
use Rattle.text.proofs.LastLaws.{ends_char, ends_other, ends_short}
use borrow.Author.Tests.{ne_eqb}
use mathlib.Core.Path.{◌∙◌}
use native.Mathlib.Omega.{arith}
use Rattle.text.proofs.trim.ends_white.Goals as goal

pub returns-then-s-n : goal.returns-then-s-n
returns-then-s-n c = ends_short _ _ c.if-s-n.true

pub returns-then-c-n : goal.returns-then-c-n
returns-then-c-n c =
    let last = c.char_at-c in
    c.is_white.ensures ∙ ends_char _ _ last.result (omega arith) last.ensures c.if-c-n.true

pub returns-else-c-n : goal.returns-else-c-n
returns-else-c-n c = rw (ne_eqb _ _ c.if-c-n.false) (ends_other _ _ c.char_at-c.result (omega arith) c.char_at-c.ensures c.if-c-n.false)
