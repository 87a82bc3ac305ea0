-- A run in place, over words and a ring that were read from the state's bytes: what it leaves is what the run by value leaves. Assumes nothing.
use Rattle.lent.specs.declared.formatter.Formatter.{Formatter}
use Rattle.text.proofs.Base.{◌≡◌, sym, ap, ◌∙◌, Bool, true, false, List, ℕ, length}
use Rattle.meaning.specs.State.{Script}
use Rattle.meaning.specs.Answer.{Answer}
use Rattle.meaning.specs.Opening.{script_in, opening}
use Rattle.meaning.specs.Plan.{zeroed}
use Rattle.lent.specs.{Run.is_refused, View.tab, View.queue_of, View.slots_of, Loans.engine}
use Rattle.lent.proofs.StopLaws.{goes}
use Rattle.entry.specs.declared.state.Small.{Small}
use Rattle.entry.specs.declared.state.Step.{Step}
use Rattle.entry.specs.Served.{started_run, now_of, Served}
use Rattle.entry.specs.Ended.{Ended}
use Rattle.entry.proofs.ServeLaws.{left_stopped, left_open}
use Rattle.entry.proofs.RunLaws.{serve_ran}
use Rattle.rules.proofs.Tame.{Tame}
use Rattle.rules.proofs.TameExprs.{layout_tame, whole_tame}
use Rattle.format.specs.declared.runs.Wanted.{Wanted}
use Rattle.format.specs.declared.runs.Wanted.TheVariants.{Node, All}
use Rattle.format.specs.Laid.{plan_of, Ran, laid}
use Rattle.format.proofs.EndLaws.{end_stopped, end_open}
use Rattle.wire.specs.Words.{word_at}
use Rattle.wire.specs.CodeState.{code_now, code_state}

pub wanted_tame : (x : Script) (w : Wanted) → Tame (plan_of x w)
wanted_tame x (Node k) = layout_tame x k
wanted_tame x All = whole_tame x

module _ (src list st b : List ℕ) (w : Wanted) {n₀ : Small} (en : n₀ ≡ code_now st) {a₀ : Answer} (ea : a₀ ≡ opening src list) (w₀ : Formatter) (e₀ : w₀ ≡ started_run n₀ a₀)
    {q₀ : List ℕ} (eq : q₀ ≡ tab (word_at st) 8 1024) (w' : Formatter) (q b₁ : List ℕ) (ran : Ran src list w (engine w₀ q₀ b) (engine w' q b₁)) (long : length b₁ ≡ length b) {t : Bool} (et : t ≡ is_refused w'.answer) where
  served : {z : Step} {b' : List ℕ} → Ended (code_state st) w' q b₁ z b' → Served (code_state st) z b' (laid src list (code_state st) b w)
  served k = serve_ran src list (code_state st) b (plan_of (script_in src list) w) ea w₀ (e₀ ∙ ap (λ (n : Small). started_run n a₀) en) w' q b₁ (rw eq at ran.out) long k

  -- the state is the one that was lent
  pub ran_refused : {b' : List ℕ} → t ≡ true → b' ≡ zeroed n₀.len b₁ → Served (code_state st) (record { answer = w'.answer; state = code_state st }) b' (laid src list (code_state st) b w)
  ran_refused h eb = served (record { step = (left_stopped (code_state st) w' q (sym et ∙ h)).out; buffer = end_stopped w'.answer _ _ _ et h (rw en at eb) })

  -- the state is the one that the words and the ring have
  pub ran_done : {words : List ℕ} → t ≡ false → words ≡ slots_of (queue_of q w'.head w'.count)
      → Served (code_state st) (record { answer = w'.answer; state = record { now = now_of w'; queue = words } }) b₁ (laid src list (code_state st) b w)
  ran_done h ew = served (record { step = (left_open (code_state st) w' q _ (goes et h) ew).out; buffer = end_open w'.answer _ _ et h })
