-- What the contract of a reader's function says, of what the cursor's function promised: of `next` and of `skip`. Assumes nothing.
use Rattle.text.proofs.Base.{◌≡◌, ap}
use Rattle.reader.specs.{declared.Reader.Reader, Moved.Moved, Moved.moved_to}
use Rattle.tree.specs.Cursor.{Taken}

pub met : (h : Reader) (taken t : Taken) → t ≡ taken → Moved h t.found (moved_to h t) taken
met h taken t e = record { found = ap (λ (k : Taken). k.found) e; reader = ap (moved_to h) e }
