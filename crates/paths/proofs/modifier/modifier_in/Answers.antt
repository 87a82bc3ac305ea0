-- `paths::modifier::modifier_in` meets its contract. Assumes nothing.
use Rattle.steps.proofs.Rules.{byte_of, facts_of, tree_of, ◌▹◌, steady, parsed}
use Rattle.paths.specs.Attribute.{modifier_in}
use Rattle.paths.proofs.modifier.modifier_in.Goals as goal

pub returns : goal.returns
unfolding modifier_in byte_of facts_of
returns c = parsed (tree_of c.args.table.now) _ c.records_of-p.ensures (c.token.ensures ▹ c.token-2.ensures ▹ steady c.ws.ensures ▹ c.next_path.ensures ▹ c.token-3.ensures) c.left_over.ensures
