-- `paths::modifier::modifier_word` meets its contract. Assumes nothing.
use Rattle.steps.proofs.Rules.{byte_of, facts_of, tree_of, ◌▹◌, steady, parsed}
use Rattle.paths.specs.Attribute.{modifier_word}
use Rattle.paths.proofs.modifier.modifier_word.Goals as goal

pub returns : goal.returns
unfolding modifier_word byte_of facts_of
returns c = parsed (tree_of c.args.table.now) _ c.records_of-p.ensures (c.token.ensures ▹ steady c.comments.ensures ▹ c.any.ensures ▹ steady c.comments-2.ensures ▹ c.token-2.ensures) c.left_over.ensures
