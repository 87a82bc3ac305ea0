-- `text::chars::code_at` meets its contract: each length by its own formula. Assumes nothing.
use Rattle.text.proofs.CharLaws.{code_at}
use borrow.Author.Tests.{le-ltb, lt-ltb}
use mathlib.Core.Path.{sym}
use Rattle.text.proofs.chars.code_at.Goals as goal

pub returns-then-n-lt2 : goal.returns-then-n-lt2
returns-then-n-lt2 c = sym (rw (lt-ltb _ _ c.if-n-lt2.true) at (code_at c.args.n c.args.i c.args.s.now))

pub returns-then-n-lt3 : goal.returns-then-n-lt3
returns-then-n-lt3 c = sym (rw (le-ltb _ _ c.if-n-lt2.false, lt-ltb _ _ c.if-n-lt3.true) at (code_at c.args.n c.args.i c.args.s.now))

pub returns-then-n-lt4 : goal.returns-then-n-lt4
returns-then-n-lt4 c =
    sym (rw (le-ltb _ _ c.if-n-lt2.false, le-ltb _ _ c.if-n-lt3.false, lt-ltb _ _ c.if-n-lt4.true) at
    (code_at c.args.n c.args.i c.args.s.now))

pub returns : goal.returns
returns c =
    sym (rw (le-ltb _ _ c.if-n-lt2.false, le-ltb _ _ c.if-n-lt3.false, le-ltb _ _ c.if-n-lt4.false) at
    (code_at c.args.n c.args.i c.args.s.now))
