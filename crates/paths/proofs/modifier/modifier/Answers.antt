-- `paths::modifier::modifier` meets its contract. Assumes nothing.
use Rattle.steps.proofs.Rules.{inl, inr}
use Rattle.paths.proofs.ModifierLaws.{as_word, as_in, as_error, as_other}
use Rattle.lent.proofs.MadeLaws.{◌▹◌}
use Rattle.paths.proofs.modifier.modifier.Goals.{in_default-via-then-kind-lt133, in_default-via-else-kind-lt133+else-kind-lt136}
use Rattle.paths.proofs.modifier.modifier.Goals as goal

pub returns-in-136 : goal.returns-in-136
returns-in-136 c = as_in _ _ _ c.kind_at-kind.ensures c.in-136.is c.modifier_in.ensures

pub returns-in-254 : goal.returns-in-254
returns-in-254 c = as_error _ _ _ c.kind_at-kind.ensures c.in-254.is c.refuse.ensures

pub returns-in-133 : goal.returns-in-133
returns-in-133 c = as_word _ _ _ c.kind_at-kind.ensures c.in-133.if-kind-lt133-own.false c.in-133.if-kind-lt136-own.true c.modifier_word.ensures

pub returns-in_default : goal.returns-in_default
returns-in_default c = as_other _ _ _ c.kind_at-kind.ensures (elim c.in_default.branch [ in_default-via-then-kind-lt133 z ↦ inl z.if-kind-lt133-1.true | in_default-via-else-kind-lt133+else-kind-lt136 z ↦ inr z.if-kind-lt136-1.false ]) c.in_default-1.rest.0.1 c.in_default-1.rest.1 (c.apart.ensures ▹ c.write_owned.ensures)
