-- Plans one after the other over what is lent, and what a refusal does. Assumes nothing.
use Rattle.std.specs.Prelude.{Ok, Err}
use Rattle.text.proofs.Base.{◌≡◌, refl, sym, ap, ◌∙◌, Bool, true, false, List, ℕ, arith, length}
use Rattle.meaning.specs.{declared.answer.Refusal.Refusal, Answer.Answer}
use Rattle.meaning.specs.{State.Script, World.World, World.result, Plan.Plan, Plan.nothing}
use Rattle.meaning.specs.{Plan.refuse, Plan.◌then◌, Plan.exec, Plan.Ran}
use Rattle.meaning.proofs.Plans.{sticky}
use Rattle.meaning.proofs.Chain as chain
use Rattle.lent.specs.{declared.formatter.Formatter.Formatter, Run.is_refused, Run.answered, View.result_of, Loans.Engine, Loans.engine, Loans.reads, Loans.Makes}
use Rattle.lent.specs.{Loans.Refuses}

-- ---- in the order of the code

infixr 50 ◌▹◌
pub ◌▹◌ : {x : Script} {p q : Plan} {e e' e'' : Engine} → Makes x p e e' → Makes x q e' e'' → Makes x (p then q) e e''
a ▹ b = record { ran = chain.◌▹◌ a.ran b.ran }

pub nothing_made : {x : Script} {e : Engine} → Makes x nothing e e
nothing_made = record { ran = chain.still }

-- the same plan by another name
pub made_as : {x : Script} {p p' : Plan} {e e' : Engine} → p ≡ p' → Makes x p e e' → Makes x p' e e'
made_as q h = rw (← q) h

-- no plan changes how long the buffer is
pub keeps : {x : Script} {p : Plan} {f f' : Formatter} {q b q' b' : List ℕ} → Makes x p (engine f q b) (engine f' q' b') → length b' ≡ length b
unfolding reads
keeps h = chain.keeps h.ran

-- ---- refusals

module _ (e : Refusal) (x : Script) (q b : List ℕ) (run : Formatter) where
  stays_for : (a : Answer) → run.answer ≡ a → is_refused a ≡ true → Ran x (refuse e) (result_of run q b) (result_of run q b)
  unfolding exec
  stays_for (Ok tt) h t = let z : ◌≡◌ {A = ℕ} 0 1 = cc in absurd (omega arith)
  stays_for (Err r) h t = record { ran = rw h }

  gives_for : (a : Answer) → run.answer ≡ a → is_refused a ≡ false → Ran x (refuse e) (result_of run q b) (result_of (answered run (Err e)) q b)
  unfolding exec
  gives_for (Ok tt) h t = record { ran = rw h }
  gives_for (Err r) h t = let z : ◌≡◌ {A = ℕ} 0 1 = cc in absurd (omega arith)

-- the first refusal stays
pub refused_before : (e : Refusal) {t : Bool} {f : Formatter} → t ≡ is_refused f.answer → t ≡ true → Refuses (refuse e) f f
unfolding reads
refused_before e {t} {f} h y = record { ran = λ x q b. record { ran = stays_for e x q b f f.answer refl (sym h ∙ y) } }

pub refused_now : (e : Refusal) {t : Bool} {f f' : Formatter} → t ≡ is_refused f.answer → t ≡ false → f' ≡ answered f (Err e) → Refuses (refuse e) f f'
unfolding reads
refused_now e {t} {f} {f'} h y s = record { ran = λ x q b. record { ran = rw s (gives_for e x q b f f.answer refl (sym h ∙ y)) } }

pub refuses_as : {p p' : Plan} {f f' : Formatter} → p ≡ p' → Refuses p f f' → Refuses p' f f'
refuses_as q h = rw (← q) h

pub nothing_refused : {f : Formatter} → Refuses nothing f f
nothing_refused = record { ran = λ x q b. nothing_made }

-- behind a refusal nothing changes any more
behind : (x : Script) (p : Plan) (e : Refusal) (a : Answer) (w : World) → exec x p (exec x (refuse e) (result a w)) ≡ exec x (refuse e) (result a w)
unfolding exec
behind x p e (Ok tt) w = sticky x p e w
behind x p e (Err r) w = sticky x p r w

pub behind_refusal : {x : Script} {p : Plan} {r : Refusal} {e e' e'' : Engine} → Makes x (refuse r) e e' → Makes x p e' e'' → Makes x (refuse r) e e''
behind_refusal {x} {p} {r} {e} a b = record { ran = record { ran = b.ran.ran ∙ ap (exec x p) a.ran.ran ∙ behind x p r (reads e).answer (reads e).left } }

-- a plan behind one that does nothing
pub nothing_then : {x : Script} {p : Plan} {e e' e'' : Engine} → Makes x nothing e e' → Makes x p e' e'' → Makes x p e e''
unfolding exec
nothing_then {x} {p} a b = record { ran = record { ran = b.ran.ran ∙ ap (exec x p) a.ran.ran } }
