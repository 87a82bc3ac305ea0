-- `tree::table::node` meets its contract. Assumes nothing.
use Rattle.tree.proofs.TableLaws.{node_in, node_out, room_le}
use lib.ListN.{length}
use mathlib.Core.Path.{◌∙◌, sym}
use native.Mathlib.Omega.{arith}
use Rattle.tree.proofs.table.node.Goals as goal

pub bounds-table-p : goal.bounds-table-p
bounds-table-p c = omega (arith, c.room.ensures, room_le (length c.args.table.now))

pub bounds-table-p-then-i-room : goal.bounds-table-p-then-i-room
bounds-table-p-then-i-room c = omega (arith, c.room.ensures, room_le (length c.args.table.now))

pub bounds-table-p-then-i-room-2 : goal.bounds-table-p-then-i-room-2
bounds-table-p-then-i-room-2 c = omega (arith, c.room.ensures, room_le (length c.args.table.now))

pub bounds-table-p-then-i-room-3 : goal.bounds-table-p-then-i-room-3
bounds-table-p-then-i-room-3 c = omega (arith, c.room.ensures, room_le (length c.args.table.now))

pub returns-then-i-room : goal.returns-then-i-room
returns-then-i-room c = c.read.ensures ∙ sym (node_in _ _ (omega (arith, c.room.ensures)))

pub returns : goal.returns
returns c = c.cut.ensures ∙ node_out _ _ (omega (arith, c.room.ensures))
