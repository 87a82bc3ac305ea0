-- The buffer at a run's end, by its answer. Assumes nothing.
use Rattle.std.specs.Prelude.{Ok, Err}
use Rattle.steps.proofs.Rules.{◌≡◌, refl, Bool, true, false, List, ℕ, arith}
use Rattle.meaning.specs.{Answer.Answer}
use Rattle.meaning.specs.{Plan.zeroed}
use Rattle.lent.specs.Run.{is_refused}
use Rattle.entry.specs.Ended.{ended_buffer}

pub end_stopped : (a : Answer) (n : ℕ) (b b' : List ℕ) {t : Bool} → t ≡ is_refused a → t ≡ true → b' ≡ zeroed n b → b' ≡ ended_buffer a n b
end_stopped (Ok tt) n b b' e h z = let v : ◌≡◌ {A = ℕ} 0 1 = cc in absurd (omega arith)
end_stopped (Err r) n b b' e h z = z

pub end_open : (a : Answer) (n : ℕ) (b : List ℕ) {t : Bool} → t ≡ is_refused a → t ≡ false → b ≡ ended_buffer a n b
end_open (Ok tt) n b e h = refl
end_open (Err r) n b e h = let v : ◌≡◌ {A = ℕ} 0 1 = cc in absurd (omega arith)
