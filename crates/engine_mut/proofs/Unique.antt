-- Any two outcomes that the promise of a thin call allows coincide: `call`, `record`, `run`, `layout` and `finish`. Assumes nothing.
use Rattle.text.proofs.Base.{◌≡◌, sym, ◌∙◌, ℕ, List}
use Rattle.tree.specs.declared.record.RecordNo.{RecordNo}
use Rattle.meaning.specs.{declared.call.Call.Call, Answer.Answer, World.Result}
use Rattle.meaning.specs.declared.call.Call.TheVariants.{Finish}
use Rattle.entry.specs.Served.{call_left, record_left}
use Rattle.format.specs.Laid.{laid_out}
use Rattle.format.specs.Laid.{laid_whole}
use Rattle.engine_mut.specs.{declared.Engine.Engine, Stored.Stored}

-- the answer, the engine behind the reference and the buffer, whole
pub record Same (a a' : Answer) (e e' : Engine) (b b' : List ℕ) : Type 0 where
  pub answer : a ≡ a'
  pub engine : e ≡ e'
  pub buffer : b ≡ b'

stored_once : {e e₁ e₂ : Engine} {a₁ a₂ : Answer} {b₁ b₂ : List ℕ} {r : Result} → Stored e a₁ e₁ b₁ r → Stored e a₂ e₂ b₂ r → Same a₁ a₂ e₁ e₂ b₁ b₂
stored_once h k = record { answer = h.answer ∙ sym k.answer; engine = h.engine ∙ sym k.engine; buffer = h.buffer ∙ sym k.buffer }

module _ (src tree : List ℕ) (e : Engine) (b : List ℕ) {e₁ e₂ : Engine} {a₁ a₂ : Answer} {b₁ b₂ : List ℕ} where
  pub call_once : (c : Call) → Stored e a₁ e₁ b₁ (call_left src tree e.state b c) → Stored e a₂ e₂ b₂ (call_left src tree e.state b c) → Same a₁ a₂ e₁ e₂ b₁ b₂
  call_once c h k = stored_once h k

  pub record_once : (bytes : List ℕ) → Stored e a₁ e₁ b₁ (record_left src tree e.state b bytes) → Stored e a₂ e₂ b₂ (record_left src tree e.state b bytes) → Same a₁ a₂ e₁ e₂ b₁ b₂
  record_once bytes h k = stored_once h k

  pub run_once : (k : RecordNo) → Stored e a₁ e₁ b₁ (laid_out src tree e.state b k) → Stored e a₂ e₂ b₂ (laid_out src tree e.state b k) → Same a₁ a₂ e₁ e₂ b₁ b₂
  run_once k h h' = stored_once h h'

  pub layout_once : Stored e a₁ e₁ b₁ (laid_whole src tree e.state b) → Stored e a₂ e₂ b₂ (laid_whole src tree e.state b) → Same a₁ a₂ e₁ e₂ b₁ b₂
  layout_once h k = stored_once h k

  pub finish_once : Stored e a₁ e₁ b₁ (call_left src tree e.state b Finish) → Stored e a₂ e₂ b₂ (call_left src tree e.state b Finish) → Same a₁ a₂ e₁ e₂ b₁ b₂
  finish_once h k = call_once Finish h k
