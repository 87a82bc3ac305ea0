-- `text::trim::white_end` meets its contract: a plain byte tells by itself, any other by the character that it ends. Assumes nothing.
use Rattle.text.proofs.LastLaws.{end_high, end_plain, end_three, end_two, end_white, ends_3000}
use mathlib.Core.Path.{◌∙◌, sym}
use native.Mathlib.Omega.{arith}
use Rattle.text.proofs.trim.white_end.Goals as goal

pub returns-then-is_white_byte : goal.returns-then-is_white_byte
returns-then-is_white_byte c = end_white _ (omega arith) (sym c.is_white_byte.ensures ∙ c.if-is_white_byte.true)

pub returns-then-last-lt128 : goal.returns-then-last-lt128
returns-then-last-lt128 c = end_plain _ (omega arith) (sym c.is_white_byte.ensures ∙ c.if-is_white_byte.false) c.if-last-lt128.true

pub returns-then-ends_3000 : goal.returns-then-ends_3000
returns-then-ends_3000 c = end_three _ (omega arith) c.if-last-lt128.false (ends_3000 _ (sym c.ends_3000.ensures ∙ c.if-ends_3000.true))

pub returns-then-ends_white : goal.returns-then-ends_white
returns-then-ends_white c = end_three _ (omega arith) c.if-last-lt128.false (sym c.ends_white.ensures ∙ c.if-ends_white.true)

pub returns-then-ends_white-2 : goal.returns-then-ends_white-2
returns-then-ends_white-2 c =
    end_two _ (omega arith) c.if-last-lt128.false (sym c.ends_white.ensures ∙ c.if-ends_white.false)
    (sym c.ends_white-2.ensures ∙ c.if-ends_white-2.true)

pub returns : goal.returns
returns c =
    end_high _ (omega arith) c.if-last-lt128.false (sym c.ends_white.ensures ∙ c.if-ends_white.false)
    (sym c.ends_white-2.ensures ∙ c.if-ends_white-2.false)
