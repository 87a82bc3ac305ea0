-- The definitions come to this text: both sides compute.
use Rattle.std.proofs.Common.{refl}
use Rattle.kinds.specs.Facts.{facts_of, byte_of, name_of}
use Rattle.kinds.specs.Kinds.{kinds}
use Rattle.kinds_agree.specs.Rows.{digit, codes, row_of, rows_of}
use Rattle.kinds_agree.proofs.rows.rows.Goals as goal

pub returns : goal.returns
unfolding facts_of byte_of name_of kinds digit codes row_of rows_of
returns c = refl
