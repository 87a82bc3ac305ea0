-- `patterns::pat_parts::close_tuple` meets its contract. Assumes nothing.
use Rattle.patterns.proofs.{PatLaws.tuple_many, PatLaws.tuple_none, PatLaws.tuple_one}
use Rattle.patterns.proofs.pat_parts.close_tuple.Goals as goal

pub returns-in-Zero : goal.returns-in-Zero
returns-in-Zero c = tuple_none _ _ c.in-Zero.is (c.pass.ensures _) c.comments.ensures

pub returns-in-One : goal.returns-in-One
returns-in-One c = tuple_one _ _ c.in-One.is c.write_only_if.ensures

pub returns-in-Many : goal.returns-in-Many
returns-in-Many c = tuple_many _ _ c.in-Many.is (c.pass-in-Many.ensures _)
