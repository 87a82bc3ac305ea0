-- `paths::path::next_path` meets its contract. Assumes nothing.
use Rattle.steps.proofs.Rules.{byte_of, facts_of, expected}
use Rattle.paths.proofs.path.next_path.Goals as goal

pub returns : goal.returns
unfolding byte_of facts_of
returns c = expected _ _ _ c.expect-k.ensures c.path.ensures
