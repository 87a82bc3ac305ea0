-- What `lending::passed` promises, of what the reader promised. Assumes nothing.
use Rattle.std.specs.Prelude.{Option}
use Rattle.text.proofs.Base.{◌≡◌}
use Rattle.reader.specs.{declared.Reader.Reader, Moved.Moved}
use Rattle.tree.specs.declared.record.RecordNo.{RecordNo}
use Rattle.tree.specs.Cursor.{Taken}

abbrev pub left_of : Option RecordNo → Reader → Taken
left_of f y = record { found = f; rest = y.place }

pub met : {r : Reader} {taken : Taken} (f : Option RecordNo) (y : Reader) → Moved r f y taken → left_of f y ≡ taken
met f y m = λ i. record { found = m.found i; rest = (m.reader i).place }
