-- `rules::node::by_part_lem` meets its contract. Assumes nothing.
use Rattle.rules.specs.Rules.{by_part}
use Rattle.steps.proofs.Rules.{byte_of, facts_of, ne_eqb}
use Rattle.rules.proofs.node.by_part.Goals as goal

pub returns-in-160 : goal.returns-in-160
unfolding by_part byte_of facts_of
returns-in-160 c = rw c.in-160.is c.use_node.ensures

pub returns-in-161 : goal.returns-in-161
unfolding by_part byte_of facts_of
returns-in-161 c = rw c.in-161.is c.item_use_group.ensures

pub returns-in-162 : goal.returns-in-162
unfolding by_part byte_of facts_of
returns-in-162 c = rw c.in-162.is c.variant.ensures

pub returns-in-163 : goal.returns-in-163
unfolding by_part byte_of facts_of
returns-in-163 c = rw c.in-163.is c.struct_body.ensures

pub returns-in-164 : goal.returns-in-164
unfolding by_part byte_of facts_of
returns-in-164 c = rw c.in-164.is c.tuple_body.ensures

pub returns-in-167 : goal.returns-in-167
unfolding by_part byte_of facts_of
returns-in-167 c = rw c.in-167.is c.fn_args.ensures

pub returns-in-177 : goal.returns-in-177
unfolding by_part byte_of facts_of
returns-in-177 c = rw c.in-177.is c.path_generics.ensures

pub returns-in-178 : goal.returns-in-178
unfolding by_part byte_of facts_of
returns-in-178 c = rw c.in-178.is c.pat.ensures

pub returns-in-179 : goal.returns-in-179
unfolding by_part byte_of facts_of
returns-in-179 c = rw c.in-179.is c.pat_array.ensures

pub returns-in-180 : goal.returns-in-180
unfolding by_part byte_of facts_of
returns-in-180 c = rw c.in-180.is c.pat_tuple.ensures

pub returns-in-181 : goal.returns-in-181
unfolding by_part byte_of facts_of
returns-in-181 c = rw c.in-181.is c.pat_object.ensures

pub returns-in_default : goal.returns-in_default
unfolding by_part byte_of facts_of
returns-in_default c = let n = c.in_default.in_default-own.rest in rw (ne_eqb _ _ n.0.0.0.0.0.0.0.0.0.0.1, ne_eqb _ _ n.0.0.0.0.0.0.0.0.0.1, ne_eqb _ _ n.0.0.0.0.0.0.0.0.1, ne_eqb _ _ n.0.0.0.0.0.0.0.1, ne_eqb _ _ n.0.0.0.0.0.0.1, ne_eqb _ _ n.0.0.0.0.0.1, ne_eqb _ _ n.0.0.0.0.1, ne_eqb _ _ n.0.0.0.1, ne_eqb _ _ n.0.0.1, ne_eqb _ _ n.0.1, ne_eqb _ _ n.1) c.by_expr.ensures
