-- `text::chars::char_at` meets its contract. Assumes nothing.
use Rattle.text.proofs.CharLaws.{char_ill, char_plain, char_wide}
use Rattle.encoding.proofs.RowLaws.{char_fits}
use native.Mathlib.Omega.{arith}
use Rattle.text.proofs.chars.char_at.Goals as goal

pub returns-then-b-lt128 : goal.returns-then-b-lt128
returns-then-b-lt128 c = char_plain c.args.s.now c.args.i (omega arith) c.if-b-lt128.true

pub returns-then-n-eq0 : goal.returns-then-n-eq0
returns-then-n-eq0 c = char_ill c.args.s.now c.args.i c.char_len-n.result c.char_len-n.ensures c.if-n-eq0.true

pub code_at-requires : goal.code_at-requires
code_at-requires c = (omega arith, rw c.char_len-n.ensures (char_fits c.args.s.now c.args.i (omega arith)))

pub returns : goal.returns
returns c =
    char_wide c.args.s.now c.args.i c.char_len-n.result c.code_at.result c.char_len-n.ensures
    c.if-n-eq0.false c.code_at.ensures
