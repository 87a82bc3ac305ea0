-- Any two outcomes that the promise of a public function allows coincide: `open`, `call` and `record`. Assumes nothing.
use Rattle.text.proofs.Base.{◌≡◌, sym, ◌∙◌, ℕ, List}
use Rattle.meaning.specs.{declared.call.Call.Call, World.Result}
use Rattle.entry.specs.declared.state.State as code
use Rattle.entry.specs.{declared.state.Step.Step, Served.Served, Served.open_left, Served.call_left, Served.record_left}

-- what is handed back, and the buffer, whole
pub record Same (z z' : Step) (b b' : List ℕ) : Type 0 where
  pub step : z ≡ z'
  pub buffer : b ≡ b'

served_once : {s : code.State} {z z' : Step} {b b' : List ℕ} {r : Result} → Served s z b r → Served s z' b' r → Same z z' b b'
served_once h k = record { step = h.step ∙ sym k.step; buffer = h.buffer ∙ sym k.buffer }

module _ (src tree : List ℕ) where
  pub open_once : {z z' : Step} → z ≡ open_left src tree → z' ≡ open_left src tree → z ≡ z'
  open_once h k = h ∙ sym k

  module _ (s : code.State) (b : List ℕ) where
    pub call_once : (c : Call) {z z' : Step} {b₁ b₂ : List ℕ} → Served s z b₁ (call_left src tree s b c) → Served s z' b₂ (call_left src tree s b c) → Same z z' b₁ b₂
    call_once c h k = served_once h k

    pub record_once : (bytes : List ℕ) {z z' : Step} {b₁ b₂ : List ℕ} → Served s z b₁ (record_left src tree s b bytes) → Served s z' b₂ (record_left src tree s b bytes) → Same z z' b₁ b₂
    record_once bytes h k = served_once h k
