-- `opening::levels::look` meets its contract: too many, one that keeps the rules, one that breaks one. Assumes nothing.
use Rattle.opening.proofs.WalkLaws.{look_bad, look_kept, look_many}
use mathlib.Core.Path.{◌∙◌, sym}
use Rattle.opening.proofs.levels.look.Goals as goal

pub returns-then-first-ge8192 : goal.returns-then-first-ge8192
returns-then-first-ge8192 c = look_many _ _ _ _ c.if-first-ge8192.true

pub returns-then-keeps_rules : goal.returns-then-keeps_rules
returns-then-keeps_rules c = look_kept _ _ _ _ c.if-first-ge8192.false (sym c.if-keeps_rules.true ∙ c.keeps_rules.ensures)

pub returns : goal.returns
returns c = look_bad _ _ _ _ c.if-first-ge8192.false (sym c.if-keeps_rules.false ∙ c.keeps_rules.ensures)
