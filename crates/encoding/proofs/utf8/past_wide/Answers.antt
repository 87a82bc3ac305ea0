-- `encoding::utf8::past_wide` meets its contract. The invariant: nothing ill-formed has been passed. Assumes nothing.
use Rattle.encoding.proofs.WalkLaws.{ill_here, past_char}
use mathlib.Core.Path.{◌∙◌, sym}
use native.Mathlib.Omega.{arith}
use Rattle.encoding.proofs.utf8.past_wide.Goals as goal

pub returns-then-n-eq0 : goal.returns-then-n-eq0
returns-then-n-eq0 c = sym c.loop-i.invariant.same ∙ ill_here c.args.s.now c.loop-i.i (omega arith) (sym c.char_len-n.ensures ∙ c.if-n-eq0.true)

pub overflow_add-i : goal.overflow_add-i
overflow_add-i c = omega (arith, (past_char c.loop-i.invariant (omega arith) c.char_len-n.ensures c.if-n-eq0.false).within)

pub loop-i-preserved : goal.loop-i-preserved
loop-i-preserved c = past_char c.loop-i.invariant (omega arith) c.char_len-n.ensures c.if-n-eq0.false
