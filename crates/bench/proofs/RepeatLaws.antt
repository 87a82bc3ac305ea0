-- Runs again and again. Assumes nothing.
use Rattle.lent.specs.declared.formatter.Formatter.{Formatter}
use Rattle.std.specs.Prelude.{Ok}
use mathlib.Core.Path.{◌≡◌, refl, ap, ◌∙◌}
use mathlib.Core.List.{List}
use Prim.Native.Nat.{ℕ, suc, ◌+◌, ◌≤◌, ◌<◌}
use native.Mathlib.Omega.{arith}
use lib.ListN.{length}
use Rattle.meaning.specs.State.{Script, fresh}
use Rattle.meaning.specs.World.{opened, Result, result}
use Rattle.meaning.specs.Plan.{Plan, exec}
use Rattle.lent.specs.Loans.{engine, reads, Makes}
use Rattle.lent.proofs.MadeLaws.{keeps}
use Rattle.entry.specs.declared.state.State as code
use Rattle.entry.specs.Served.{encoded, started_run}
use Rattle.bench.specs.Packed.{reached_as}
use Rattle.bench.specs.Repeated.{repeated, laid_out, Repeats}
use Rattle.bench.proofs.HistoryLaws.{starts_fresh}

-- so many are done
pub record Repeating (x : Script) (p : Plan) (b : List ℕ) (w : Formatter) (q b' : List ℕ) (times i : ℕ) : Type 0 where
  pub within : i ≤ times
  pub same : reads (engine w q b') ≡ repeated x p i b
  pub long : length b' ≡ length b

pub none_done : {x : Script} {p : Plan} {b : List ℕ} {w : Formatter} {q : List ℕ} {times : ℕ} {s : code.State} → s ≡ encoded fresh → w ≡ started_run s.now (Ok tt) → Repeating x p b w q b times 0
unfolding repeated
none_done {b = b} {w = w} {q = q} es er = record { within = omega arith; same = starts_fresh es w er q b; long = refl }

pub one_done : {x : Script} {p : Plan} {b : List ℕ} {w : Formatter} {q b' : List ℕ} {w₁ w₂ : Formatter} {q₂ b₂ : List ℕ} {times i : ℕ} {s : code.State} → s ≡ encoded fresh → w₁ ≡ started_run s.now (Ok tt) → i < times → Makes x p (engine w₁ q b') (engine w₂ q₂ b₂)
    → Repeating x p b w q b' times i → Repeating x p b w₂ q₂ b₂ times (i + 1)
unfolding repeated reads
one_done {x} {p} {b} {w} {q} {b'} {w₁} {i = i} es er h m g =
    let one : i + 1 ≡ suc i = omega arith in
    let left : b' ≡ (repeated x p i b).left.buffer = ap (λ (y : Result). y.left.buffer) g.same in
    record {
      within = omega arith;
      same = rw one (m.ran.ran ∙ ap (exec x p) (starts_fresh es w₁ er q b' ∙ ap (λ (b : List ℕ). result (Ok tt) (opened b)) left));
      long = keeps m ∙ g.long;
    }

pub all_done : {src tree b : List ℕ} {w : Formatter} {q b' : List ℕ} {x : Script} {p : Plan} {plan : Script → Plan} {times i z : ℕ} → repeated x p times b ≡ laid_out src tree b plan times → Repeating x p b w q b' times i → times ≤ i → z ≡ reached_as w.answer w.len → Repeats src tree b plan times z b'
unfolding reads
all_done {src} {tree} {b} {w} {q} {b'} {x} {p} {plan} {times} {i} y g h ez =
    let last : i ≡ times = omega (arith, g.within) in
    let e : reads (engine w q b') ≡ laid_out src tree b plan times = g.same ∙ ap (λ (n : ℕ). repeated x p n b) last ∙ y in
    record { number = ez ∙ ap (λ (y : Result). reached_as y.answer y.left.state.len) e; buffer = ap (λ (y : Result). y.left.buffer) e }
