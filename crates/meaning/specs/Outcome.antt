-- What comes of a call: a state and the pieces written, or a refusal. Assumes nothing.
use Rattle.std.specs.Prelude.{Bool, true, false, List}
use Rattle.meaning.specs.declared.answer.Refusal.{Refusal}
use Rattle.meaning.specs.State.{State}
use Rattle.meaning.specs.Pieces.{Piece}

pub data Outcome : Type 0 where
  done : State → List Piece → Outcome
  refused : Refusal → Outcome

-- the first test that holds refuses; what stands behind it is not looked at
unfoldable pub refuse_if : Bool → Refusal → Outcome → Outcome
refuse_if true r o = refused r
refuse_if false r o = o
