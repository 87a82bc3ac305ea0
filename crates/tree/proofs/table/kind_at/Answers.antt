-- `tree::table::kind_at` meets its contract. Assumes nothing.
use lib.ListN.{length}
use Rattle.tree.proofs.TableLaws.{kind_in, kind_out, room_le}
use native.Mathlib.Omega.{arith}
use Rattle.tree.proofs.table.kind_at.Goals as goal

pub bounds-table-i : goal.bounds-table-i
bounds-table-i c = omega (arith, c.room.ensures, room_le (length c.args.table.now))

pub returns-then-i-room : goal.returns-then-i-room
returns-then-i-room c = kind_in _ _ (omega (arith, c.room.ensures))

pub returns : goal.returns
returns c = kind_out _ _ (omega (arith, c.room.ensures))
