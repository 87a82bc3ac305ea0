-- `kinds::class::semi_at` meets its contract: at four bytes, and at all others. Assumes nothing.
use mathlib.Core.Path.{refl, sym}
use mathlib.Core.Bool.{true, not}
use mathlib.Core.List.{[], ◌∷◌}
use borrow.Author.Tests.{not-true}
use Rattle.kinds.specs.Facts.{needs_semi, byte_of, facts_of}
use Rattle.kinds.specs.Kinds.{kind_of, kinds, find}
use Rattle.kinds.proofs.ByByte.{among, elsewhere}
use Rattle.kinds.proofs.class.semi_at.Goals as goal

pub returns-in-145 : goal.returns-in-145
unfolding needs_semi byte_of facts_of kind_of kinds find
returns-in-145 c = among (λ b. needs_semi (kind_of b)) true (0x91 ∷ 0x93 ∷ 0x95 ∷ 0x97 ∷ []) c.args.byte refl c.in-145.is

pub returns-in_default : goal.returns-in_default
unfolding needs_semi byte_of facts_of kind_of kinds find
returns-in_default c = sym (not-true (needs_semi (kind_of c.args.byte)) (elsewhere (λ k. not (needs_semi k)) refl c.args.byte c.in_default.in_default-own.rest.1))
