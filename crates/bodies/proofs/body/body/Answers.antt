-- `bodies::body::body` meets its contract. Assumes nothing.
use Rattle.steps.proofs.Rules.{sym, ◌∙◌, ne_eqb, byte_of, facts_of, nothing_made, pumped}
use Rattle.lent.proofs.MadeLaws as made
use Rattle.bodies.specs.Body.{body}
use Rattle.bodies.proofs.body.body.Goals as goal

pub returns-in-163 : goal.returns-in-163
unfolding body byte_of facts_of
returns-in-163 c = pumped _ c.pump-k.ensures (rw (sym c.kind_at-kind.ensures ∙ c.in-163.is) (made.◌▹◌ c.ws.ensures c.struct_body.ensures))

pub returns-in-164 : goal.returns-in-164
unfolding body byte_of facts_of
returns-in-164 c = pumped _ c.pump-k.ensures (rw (sym c.kind_at-kind.ensures ∙ c.in-164.is) c.tuple_body.ensures)

pub returns-in-165 : goal.returns-in-165
unfolding body byte_of facts_of
returns-in-165 c = pumped _ c.pump-k.ensures (rw (sym c.kind_at-kind.ensures ∙ c.in-165.is) nothing_made)

pub returns-in_default : goal.returns-in_default
unfolding body byte_of facts_of
returns-in_default c = let n = c.in_default.in_default-own.rest in pumped _ c.pump-k.ensures (rw (← c.kind_at-kind.ensures, ne_eqb _ _ n.0.0.1, ne_eqb _ _ n.0.1, ne_eqb _ _ n.1) (c.refuse.ensures.ran _ _ _))
