-- `tree::cursor::behind` meets its contract. Assumes nothing.
use Rattle.tree.proofs.CursorLaws.{behind_is}
use mathlib.Core.Path.{◌∙◌}
use Rattle.tree.proofs.cursor.behind.Goals as goal

pub returns : goal.returns
returns c = c.min.ensures ∙ behind_is _ _ c.size-n.ensures c.node-below.ensures
