-- `gaps::statements::semicolon` meets its contract. Assumes nothing.
use Rattle.gaps.proofs.StatementLaws.{semi_of}
use Rattle.gaps.proofs.statements.semicolon.Goals as goal

pub returns : goal.returns
returns c = semi_of _ _ c.semi_at-needed.ensures c.take_remaining-semi.ensures c.before_semi.ensures c.write_if.ensures
