-- `tree::cursor::Cursor::first` meets its contract. Assumes nothing.
use Rattle.tree.proofs.CursorLaws.{first_in, first_out, first_past}
use native.Mathlib.Omega.{arith}
use Rattle.tree.proofs.cursor.Cursor.first.Goals as goal
use Rattle.tree.proofs.cursor.Cursor.first.Goals.{else-at-self-via-then-at-self+else-at-size, else-at-self-via-else-at-self}

pub returns-then-at-size : goal.returns-then-at-size
returns-then-at-size c = first_in _ _ c.if-at-self.true (omega (arith, c.size.ensures))

pub returns : goal.returns
returns c = elim c.else-at-self.branch [ else-at-self-via-then-at-self+else-at-size w ↦ first_out _ _ (omega (arith, w.size.ensures, w.if-at-size.false)) | else-at-self-via-else-at-self w ↦ first_past _ _ w.if-at-self.false ]
