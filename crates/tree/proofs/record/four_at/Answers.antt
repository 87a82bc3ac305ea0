-- `tree::record::four_at` meets its contract. Assumes nothing.
use Rattle.tree.proofs.RecordLaws.{four_is}
use mathlib.Core.Path.{◌∙◌, refl}
use Rattle.tree.proofs.record.four_at.Goals as goal

pub returns : goal.returns
returns c = c.from_le_bytes.ensures ∙ four_is c.args.s.now c.args.i refl refl refl refl
