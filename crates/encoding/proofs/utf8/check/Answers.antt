-- `encoding::utf8::check` meets its contract. The invariant: nothing ill-formed has been passed. Assumes nothing.
use Rattle.encoding.proofs.WalkLaws.{formed_none}
use mathlib.Core.Path.{◌∙◌, sym}
use Rattle.encoding.proofs.utf8.check.Goals as goal

pub returns : goal.returns
returns c = sym (sym c.loop-i.invariant.same ∙ formed_none _ _ c.loop-i-test.false)
