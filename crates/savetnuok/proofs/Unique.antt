-- Any two outcomes that the promise of an exported function allows coincide; and a number tells refusal and place apart. Assumes nothing.
use mathlib.Core.Path.{◌≡◌, sym, ◌∙◌}
use Prim.Native.Nat.{ℕ, ◌/◌, ◌%◌, ◌<◌}
use native.Mathlib.Omega.{arith}
use mathlib.Core.List.{List}
use Rattle.tree.specs.declared.record.RecordNo.{RecordNo}
use Rattle.meaning.specs.Answer.{Answer}
use Rattle.meaning.specs.Numbers.{seen}
use Rattle.meaning.specs.World.{Result}
use Rattle.meaning.specs.Plan.{Plan}
use Rattle.savetnuok.specs.Exported.{packed, Opened, Handed, call_result, Called, run_result, Laid}
use Rattle.savetnuok.specs.Why.{Told}

-- the answer, and every byte of what was lent
pub record Same (n n' : ℕ) (st st' b b' : List ℕ) : Type 0 where
  pub answer : n ≡ n'
  pub state : st ≡ st'
  pub buffer : b ≡ b'

module _ (src tree st : List ℕ) where
  pub open_once : {n n' : ℕ} {st₁ st₂ : List ℕ} → Opened src tree st n st₁ → Opened src tree st n' st₂ → (n ≡ n') × (st₁ ≡ st₂)
  open_once h k = (h.answer ∙ sym k.answer, h.state ∙ sym k.state)

  handed_once : (r : Result) {n n' : ℕ} {st₁ st₂ b₁ b₂ : List ℕ} → Handed st r n st₁ b₁ → Handed st r n' st₂ b₂ → Same n n' st₁ st₂ b₁ b₂
  handed_once r h k = record { answer = h.answer ∙ sym k.answer; state = h.state ∙ sym k.state; buffer = h.buffer ∙ sym k.buffer }

  pub call_once : (b bytes : List ℕ) {n n' : ℕ} {st₁ st₂ b₁ b₂ : List ℕ} → Called src tree st b bytes n st₁ b₁ → Called src tree st b bytes n' st₂ b₂ → Same n n' st₁ st₂ b₁ b₂
  call_once b bytes = handed_once (call_result src tree st b bytes)

  -- of a run on a node, and of a whole layout
  pub run_once : (b : List ℕ) (p : Plan) {n n' : ℕ} {st₁ st₂ b₁ b₂ : List ℕ} → Laid src tree st b p n st₁ b₁ → Laid src tree st b p n' st₂ b₂ → Same n n' st₁ st₂ b₁ b₂
  run_once b p = handed_once (run_result src tree st b p)

pub why_once : {src tree : List ℕ} {k : RecordNo} {n n' : ℕ} → Told src tree k n → Told src tree k n' → n ≡ n'
why_once h k = h.answer ∙ sym k.answer

-- the number above, the place below
pub unpacked : (a : Answer) → (seen a).place < 0x100000000 → (packed a / 0x100000000 ≡ (seen a).number) × (packed a % 0x100000000 ≡ (seen a).place)
unfolding packed
unpacked a h = (omega arith, omega arith)
