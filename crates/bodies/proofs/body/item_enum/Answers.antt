-- `bodies::body::item_enum` meets its contract. Assumes nothing.
use Rattle.steps.proofs.Rules.{byte_of, facts_of, ◌▹◌, steady, next_so, next_not}
use Rattle.bodies.specs.Body.{enum_body, item_enum}
use Rattle.bodies.proofs.body.item_enum.Goals as goal

pub returns-then-next_is : goal.returns-then-next_is
unfolding item_enum enum_body byte_of facts_of
returns-then-next_is c = c.token.ensures ▹ c.spaced_if.ensures ▹ steady c.ws.ensures ▹ next_so _ _ _ c.next_is.ensures c.if-next_is.true c.variants.ensures

pub returns : goal.returns
unfolding item_enum enum_body byte_of facts_of
returns c = c.token.ensures ▹ c.spaced_if.ensures ▹ steady c.ws.ensures ▹ next_not _ _ _ c.next_is.ensures c.if-next_is.false (steady c.lit.ensures)
