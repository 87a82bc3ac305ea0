-- A session: call records, runs and layouts one behind the other, source and tree as opened, state and buffer as last left. Assumes nothing.
use Rattle.std.specs.Prelude.{ℕ, List, [], ◌∷◌}
use Rattle.meaning.specs.History.{Event, a_record, a_run}
use Rattle.savetnuok.specs.Exported.{Called, layout_of, whole_of, Laid}

-- a call record, a run on a node, or a whole layout
pub data Turn : Type 0 where
  call : List ℕ → Turn
  run : ℕ → Turn
  layout : Turn

-- the same as an event of the meaning's histories
abbrev pub event_of : List ℕ → List ℕ → Turn → Event
event_of src tree (call bytes) = a_record bytes
event_of src tree (run k) = a_run (layout_of src tree k)
event_of src tree layout = a_run (whole_of src tree)

-- from the state st and the buffer b by these turns to st' and b', each as `savetnuok_call`, `savetnuok_run` or `savetnuok_layout` promises, refused ones too
pub data Session (src tree : List ℕ) : List ℕ → List ℕ → List Turn → List ℕ → List ℕ → Type 0 where
  ended : {st b : List ℕ} → Session src tree st b [] st b
  called : {st b bytes st₁ b₁ st' b' : List ℕ} {n : ℕ} {more : List Turn} → Called src tree st b bytes n st₁ b₁ → Session src tree st₁ b₁ more st' b'
      → Session src tree st b (call bytes ∷ more) st' b'
  laid : {st b st₁ b₁ st' b' : List ℕ} {k n : ℕ} {more : List Turn} → Laid src tree st b (layout_of src tree k) n st₁ b₁ → Session src tree st₁ b₁ more st' b'
      → Session src tree st b (run k ∷ more) st' b'
  laid_whole : {st b st₁ b₁ st' b' : List ℕ} {n : ℕ} {more : List Turn} → Laid src tree st b (whole_of src tree) n st₁ b₁ → Session src tree st₁ b₁ more st' b'
      → Session src tree st b (layout ∷ more) st' b'
