-- `uses::use_parts::is_single` meets its contract. Assumes nothing.
use Rattle.steps.proofs.Rules.{ap, ◌∙◌, inl, inr, byte_of, facts_of, Kind, tree_of, Stream, is}
use Rattle.uses.specs.Use.{how_many, is_one}
use Rattle.uses.proofs.UseLaws.{none_found, single_on, single_not, single_all, taken_less}
use Rattle.uses.proofs.use_parts.is_single.Goals as goal
use Rattle.uses.proofs.use_parts.is_single.Goals.{then-next_is+else-found, else-next_is}

pub loop-p-init : goal.loop-p-init
loop-p-init c = none_found

pub returns-then-found : goal.returns-then-found
unfolding byte_of facts_of
returns-then-found c = let rs = tree_of c.args.table.now in single_not _ c.has_next.ensures c.loop-p-test.true c.next_is.ensures c.if-next_is.true c.if-found.true c.loop-p.invariant ∙ ap (λ (s : Stream). is_one (how_many (is rs Kind.ItemUsePath) s.left)) c.records_of-p.ensures

pub loop-p-smaller : goal.loop-p-smaller
loop-p-smaller c = taken_less _ c.has_next.ensures c.loop-p-test.true c.take.ensures

pub loop-p-preserved : goal.loop-p-preserved
unfolding byte_of facts_of
loop-p-preserved c = single_on _ c.has_next.ensures c.loop-p-test.true c.next_is.ensures (elim c.if-next_is.branch [ then-next_is+else-found z ↦ inl (z.if-next_is.true, z.if-found.false, z.found-is) | else-next_is z ↦ inr (z.if-next_is.false, z.found-is) ]) c.take.ensures c.loop-p.invariant

pub returns : goal.returns
returns c = let rs = tree_of c.args.table.now in single_all _ c.has_next.ensures c.loop-p-test.false c.loop-p.invariant ∙ ap (λ (s : Stream). is_one (how_many (is rs Kind.ItemUsePath) s.left)) c.records_of-p.ensures
