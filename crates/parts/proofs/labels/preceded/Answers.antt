-- `parts::labels::preceded` meets its contract. Assumes nothing.
use Rattle.parts.proofs.LabelLaws.{attribute_next, modifiers_next, label_next}
use Rattle.steps.proofs.Rules.{byte_of, facts_of}
use Rattle.parts.proofs.labels.preceded.Goals as goal

pub returns-then-next_is : goal.returns-then-next_is
unfolding byte_of facts_of
returns-then-next_is c = rw c.if-next_is.true (attribute_next _ _ c.next_is.ensures c.if-next_is.true)

pub returns-then-next_is-2 : goal.returns-then-next_is-2
unfolding byte_of facts_of
returns-then-next_is-2 c = rw c.if-next_is-2.true (modifiers_next _ _ c.next_is.ensures c.if-next_is.false c.next_is-else-next_is.ensures c.if-next_is-2.true)

pub returns-else-next_is-2 : goal.returns-else-next_is-2
unfolding byte_of facts_of
returns-else-next_is-2 c = label_next _ _ c.next_is.ensures c.if-next_is.false c.next_is-else-next_is.ensures c.if-next_is-2.false c.next_is-else-next_is-2.ensures
