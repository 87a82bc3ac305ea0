-- `encoding::utf8::two_behind` meets its contract. Assumes nothing.
use Rattle.encoding.proofs.RowLaws.{all_two}
use Rattle.encoding.specs.Utf8.{◌⋯◌, cont}
use mathlib.Core.Bool.{false, true}
use mathlib.Core.Path.{◌∙◌, refl, sym}
use Rattle.encoding.proofs.utf8.two_behind.Goals as goal

pub returns-then-in_range : goal.returns-then-in_range
returns-then-in_range c =
    all_two (c.args.lo ⋯ c.args.hi) cont c.args.s.now c.args.i true _ (sym c.if-in_range.true ∙ c.in_range.ensures) c.in_range-then-in_range.ensures

pub returns-else-in_range : goal.returns-else-in_range
returns-else-in_range c =
    c.if-in_range.false ∙ all_two (c.args.lo ⋯ c.args.hi) cont c.args.s.now c.args.i false _ (sym c.if-in_range.false ∙ c.in_range.ensures) refl
