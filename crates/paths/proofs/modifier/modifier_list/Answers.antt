-- `paths::modifier::modifier_list` meets its contract. Assumes nothing.
use Rattle.steps.proofs.Rules.{tree_of, ◌▹◌, pumped, parsed, none_seen, next_seen, seen_less}
use Rattle.steps.proofs.Rules.{all_seen, last_done}
use Rattle.paths.specs.Attribute.{next_modifier, modifier_list}
use Rattle.paths.proofs.{ModifierLaws.modifiers_take}
use Rattle.paths.proofs.modifier.modifier_list.Goals as goal

pub returns : goal.returns
unfolding modifier_list
returns c = parsed _ _ c.records_of-p.ensures (all_seen _ c.has_next.ensures c.loop-p-test.false c.loop-p.invariant ▹ last_done _ c.apart.ensures) c.left_over.ensures

pub loop-p-init : goal.loop-p-init
loop-p-init c = none_seen _

pub loop-p-smaller : goal.loop-p-smaller
loop-p-smaller c = let rs = tree_of c.args.table.now in seen_less _ (next_modifier rs) c.loop-p.any (modifiers_take rs) c.has_next.ensures c.loop-p-test.true (pumped _ c.pump-n.ensures c.modifier.ensures)

pub loop-p-preserved : goal.loop-p-preserved
loop-p-preserved c = let rs = tree_of c.args.table.now in next_seen _ (next_modifier rs) c.loop-p.any (modifiers_take rs) c.has_next.ensures c.loop-p-test.true (pumped _ c.pump-n.ensures c.modifier.ensures) c.loop-p.invariant
