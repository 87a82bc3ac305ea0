-- `text::trim::trimmed` meets its contract. The invariant: what is trimmed of the first n bytes is what is trimmed of all.
-- Assumes nothing.
use Rattle.text.proofs.EndLaws.{trim_empty, trim_stop, trim_turn}
use mathlib.Core.Path.{◌∙◌, sym}
use native.Mathlib.Omega.{arith}
use Rattle.text.proofs.trim.trimmed.Goals as goal

pub returns-then-white-eq0 : goal.returns-then-white-eq0
returns-then-white-eq0 c = sym (trim_stop _ c.loop-n.n c.white_end-white.result c.white_end-white.ensures c.if-white-eq0.true) ∙ c.loop-n.invariant.1

pub overflow_sub-n : goal.overflow_sub-n
overflow_sub-n c = (trim_turn _ c.loop-n.n c.white_end-white.result c.loop-n.invariant.0 c.white_end-white.ensures c.if-white-eq0.false).0

pub loop-n-preserved : goal.loop-n-preserved
loop-n-preserved c =
    let turn = trim_turn _ c.loop-n.n c.white_end-white.result c.loop-n.invariant.0 c.white_end-white.ensures c.if-white-eq0.false in
    (omega arith, sym turn.1 ∙ c.loop-n.invariant.1)

pub returns : goal.returns
returns c = sym (trim_empty _ c.loop-n.n c.loop-n-test.false) ∙ c.loop-n.invariant.1
