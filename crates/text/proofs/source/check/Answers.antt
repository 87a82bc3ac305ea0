-- `text::source::check` meets its contract: an ill-formed place lies inside the source, so it fits a place. Assumes nothing.
use Rattle.encoding.proofs.WellFormed.{ill_first}
use Rattle.text.specs.Source.{checked, of_formed}
use borrow.Author.Tests.{le-ltb, lt-ltb}
use mathlib.Core.Path.{◌∙◌, ap, sym}
use native.Mathlib.Omega.{arith}
use Rattle.text.proofs.source.check.Goals as goal

pub returns-then-s-gt65536 : goal.returns-then-s-gt65536
unfolding checked
returns-then-s-gt65536 c = sym (rw (lt-ltb _ _ c.if-s-gt65536.true))

pub overflow_cast-result : goal.overflow_cast-result
overflow_cast-result c = omega (arith, (ill_first c.args.s.now c.in-Err.e.at (sym c.check.ensures ∙ c.in-Err.is)).inside)

pub returns-in-Ok : goal.returns-in-Ok
unfolding checked
returns-in-Ok c = sym (rw (le-ltb _ _ c.if-s-gt65536.false) (ap of_formed (sym c.check.ensures ∙ c.in-Ok.is)))

pub returns-in-Err : goal.returns-in-Err
unfolding checked
returns-in-Err c = sym (rw (le-ltb _ _ c.if-s-gt65536.false) (ap of_formed (sym c.check.ensures ∙ c.in-Err.is)))
