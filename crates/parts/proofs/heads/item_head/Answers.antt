-- `parts::heads::item_head` meets its contract. Assumes nothing.
use Rattle.parts.specs.Heads.{item_head}
use Rattle.steps.proofs.Rules.{byte_of, facts_of, ne_eqb}
use Rattle.parts.proofs.heads.item_head.Goals as goal

pub returns-in-152 : goal.returns-in-152
unfolding item_head byte_of facts_of
returns-in-152 c = rw c.in-152.is c.item_struct.ensures

pub returns-in-153 : goal.returns-in-153
unfolding item_head byte_of facts_of
returns-in-153 c = rw c.in-153.is c.item_enum.ensures

pub returns-in-154 : goal.returns-in-154
unfolding item_head byte_of facts_of
returns-in-154 c = rw c.in-154.is c.fn_head.ensures

pub returns-in-155 : goal.returns-in-155
unfolding item_head byte_of facts_of
returns-in-155 c = rw c.in-155.is c.item_use.ensures

pub returns-in-156 : goal.returns-in-156
unfolding item_head byte_of facts_of
returns-in-156 c = rw c.in-156.is c.impl_head.ensures

pub returns-in-159 : goal.returns-in-159
unfolding item_head byte_of facts_of
returns-in-159 c = rw c.in-159.is c.const_head.ensures

pub returns-in_default : goal.returns-in_default
unfolding item_head byte_of facts_of
returns-in_default c =
    let n = c.in_default.in_default-own.rest in
    rw (ne_eqb _ _ n.0.0.0.0.0.1, ne_eqb _ _ n.0.0.0.0.1, ne_eqb _ _ n.0.0.0.1, ne_eqb _ _ n.0.0.1, ne_eqb _ _ n.0.1, ne_eqb _ _ n.1)
    c.mod_head.ensures
