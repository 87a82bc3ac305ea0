-- `tree::table::size` meets its contract. Assumes nothing.
use Rattle.tree.proofs.TableLaws.{room_le, size_is}
use lib.ListN.{length}
use mathlib.Core.Path.{◌∙◌, sym}
use native.Mathlib.Omega.{arith}
use Rattle.tree.proofs.table.size.Goals as goal

pub overflow_cast-result : goal.overflow_cast-result
overflow_cast-result c = omega (arith, c.room.ensures, room_le (length c.args.table.now))

pub returns : goal.returns
returns c = c.room.ensures ∙ sym (size_is _)
