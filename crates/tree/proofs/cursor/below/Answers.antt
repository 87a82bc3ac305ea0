-- `tree::cursor::below` meets its contract. Assumes nothing.
use Rattle.tree.specs.Cursor.{first_of}
use Rattle.tree.specs.Table.{tree_of}
use mathlib.Core.Path.{◌∙◌, ap}
use Rattle.tree.proofs.cursor.below.Goals as goal

pub returns : goal.returns
returns c = c.first.ensures ∙ ap (first_of (tree_of c.args.table.now)) c.children_of.ensures
