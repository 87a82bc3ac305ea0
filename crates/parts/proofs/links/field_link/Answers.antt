-- `parts::links::field_link` meets its contract. Assumes nothing.
use Rattle.parts.specs.Links.{field_of}
use Rattle.steps.proofs.Rules.{◌▹◌, byte_of, facts_of, next_not, next_so, parsed}
use Rattle.parts.proofs.links.field_link.Goals as goal

pub returns-then-next_is : goal.returns-then-next_is
unfolding field_of byte_of facts_of
returns-then-next_is c = parsed _ _ c.records_of-p.ensures (c.token.ensures ▹ next_so _ _ _ c.next_is.ensures c.if-next_is.true c.any.ensures) c.left_over.ensures

pub returns : goal.returns
unfolding field_of byte_of facts_of
returns c = parsed _ _ c.records_of-p.ensures (c.token.ensures ▹ next_not _ _ _ c.next_is.ensures c.if-next_is.false c.next_path.ensures) c.left_over-2.ensures
