-- `rules::whole::is_script` meets its contract. Assumes nothing.
use Rattle.rules.proofs.WholeLaws.{all_held, no_body, none_there}
use Rattle.rules.specs.Whole.{is_script}
use Rattle.steps.proofs.Rules.{byte_of, facts_of, tree_of}
use Rattle.rules.proofs.whole.is_script.Goals as goal

pub returns-then-size-eq0 : goal.returns-then-size-eq0
unfolding is_script
returns-then-size-eq0 c = none_there (tree_of c.args.table.now) c.size.ensures c.if-size-eq0.true

pub returns-then-kind_at : goal.returns-then-kind_at
unfolding is_script byte_of facts_of
returns-then-kind_at c = all_held (tree_of c.args.table.now) c.size.ensures c.if-size-eq0.false c.kind_at.ensures c.if-kind_at.true c.behind.ensures c.size-then-kind_at.ensures

pub returns : goal.returns
unfolding is_script byte_of facts_of
returns c = no_body (tree_of c.args.table.now) c.kind_at.ensures c.if-kind_at.false
