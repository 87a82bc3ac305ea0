use mathlib.Core.Path.{refl}
use mathlib.Core.Bool.{true}
use Rattle.kinds.specs.declared.Kind.{Kind}
use Rattle.kinds.specs.Facts.{has_rule, facts_of}
use Rattle.kinds.specs.contracts.Kind.{enum}
use Rattle.kinds.proofs.Arms.{arm}
use Rattle.kinds.proofs.class.has_rule.Goals as goal

pub returns-in-BlockBody : goal.returns-in-BlockBody
unfolding has_rule facts_of
returns-in-BlockBody c = arm enum tt Kind.Unknown has_rule true (λ b. b) c.args.kind refl c.in-BlockBody.in-BlockBody-own.keys1
