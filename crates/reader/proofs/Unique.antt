-- Any two outcomes that the promise of a reader's function allows coincide: `peek`, `next` and `skip`. Assumes nothing.
use Rattle.std.specs.Prelude.{Option}
use Rattle.text.proofs.Base.{◌≡◌, sym, ◌∙◌}
use Rattle.tree.specs.{Table.tree_of, Cursor.peek_of, Cursor.take_of, Cursor.child_of, declared.record.RecordNo.RecordNo, Cursor.Taken}
use Rattle.reader.specs.{declared.Reader.Reader, Moved.Moved}

-- what is found, and the reader left, whole
pub record Same (f f' : Option RecordNo) (r r' : Reader) : Type 0 where
  pub found : f ≡ f'
  pub reader : r ≡ r'

moved_once : {r r₁ r₂ : Reader} {f₁ f₂ : Option RecordNo} {t : Taken} → Moved r f₁ r₁ t → Moved r f₂ r₂ t → Same f₁ f₂ r₁ r₂
moved_once h k = record { found = h.found ∙ sym k.found; reader = h.reader ∙ sym k.reader }

module _ (r : Reader) where
  pub peek_once : {f₁ f₂ : Option RecordNo} → f₁ ≡ peek_of (tree_of r.table.now) r.place → f₂ ≡ peek_of (tree_of r.table.now) r.place → f₁ ≡ f₂
  peek_once h k = h ∙ sym k

  module _ {f₁ f₂ : Option RecordNo} {r₁ r₂ : Reader} where
    pub next_once : Moved r f₁ r₁ (take_of (tree_of r.table.now) r.place) → Moved r f₂ r₂ (take_of (tree_of r.table.now) r.place) → Same f₁ f₂ r₁ r₂
    next_once h k = moved_once h k

    pub skip_once : Moved r f₁ r₁ (child_of (tree_of r.table.now) r.place) → Moved r f₂ r₂ (child_of (tree_of r.table.now) r.place) → Same f₁ f₂ r₁ r₂
    skip_once h k = moved_once h k
