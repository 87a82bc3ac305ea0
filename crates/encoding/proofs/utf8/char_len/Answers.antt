-- `encoding::utf8::char_len` meets its contract. Assumes nothing.
use Rattle.encoding.proofs.RowLaws.{char_none, char_one}
use mathlib.Core.Path.{sym}
use borrow.Author.Rules.{rules}
use Rattle.encoding.proofs.utf8.char_len.Goals as goal

pub returns-then-s-i : goal.returns-then-s-i
returns-then-s-i c = sym (char_none _ _ c.if-s-i.true)

pub returns-in-0-to-127 : goal.returns-in-0-to-127
returns-in-0-to-127 c = sym (char_one {s = c.args.s.now} {i = c.args.i} (search rules))
