-- What a reader gives, and where it stands behind it, whole. Assumes nothing.
use Rattle.std.specs.Prelude.{◌≡◌, Option}
use Rattle.reader.specs.declared.Reader.{Reader}
use Rattle.tree.specs.declared.record.RecordNo.{RecordNo}
use Rattle.tree.specs.Cursor.{Taken}

-- the reader over the same table, at the place behind what was taken
abbrev pub moved_to : Reader → Taken → Reader
moved_to r t = record { table = r.table; place = t.rest }

-- from the reader r: what is found, and the reader left
pub record Moved (r : Reader) (f : Option RecordNo) (r' : Reader) (t : Taken) : Type 0 where
  pub found : f ≡ t.found
  pub reader : r' ≡ moved_to r t
