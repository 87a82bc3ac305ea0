-- `loose::wide::is_wide` meets its contract: few bytes are not wide, else the count tells. Assumes nothing.
use borrow.Author.Tests.{le-ltb}
use Rattle.text.proofs.Base.{◌∙◌}
use Rattle.width.proofs.Laws.{few_bytes, wide_at}
use Rattle.loose.proofs.wide.is_wide.Goals as goal

pub returns-else-part-limit : goal.returns-else-part-limit
returns-else-part-limit c = le-ltb _ _ c.if-part-limit.false ∙ few_bytes c.args.src.now c.args.span c.args.limit (rw c.part.ensures at c.if-part-limit.false)

pub returns-then-part-limit : goal.returns-then-part-limit
returns-then-part-limit c = wide_at c.args.src.now c.args.span c.args.limit c.width_of.ensures
