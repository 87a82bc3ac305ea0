-- Laws of arms: the comma behind one, and that a turn takes a record. Assumes nothing.
use Rattle.lent.specs.declared.formatter.Formatter.{Formatter}
use Rattle.steps.proofs.Rules.{◌≡◌, refl, sym, ◌∙◌, Bool, true, false, List, ℕ, RecordNo, Kind, Line, Comments, Nl, Script, Plan, make, ◌then◌, Engine, Makes, Stream, next_is, take_any}
use Rattle.steps.proofs.Rules.{◌▸◌, pump, is, Goes, Falls, Takes, Each, pump_takes, taking_falls, ◌takes_then◌}
use Rattle.walk.specs.Stream.{no, next_in}
use Rattle.walk.specs.Flow.{Got}
use Rattle.lent.proofs.MadeLaws as made
use Rattle.gaps.specs.Arms.{is_block_arm, arm_comma, open_arm}
use Rattle.gaps.proofs.Laws.{comma_leaves}
use Rattle.exprs.specs.Rule.{Rule, Below}
use Rattle.exprs.specs.Arms.{with_comma, select_arm, match_arm}
use Rattle.exprs.proofs.TakenLaws.{taken_is}

-- whether the arm that was taken has a block for its body
pub comma_of : {x : Script} (lay : Below) (rule : RecordNo → Plan) (want : ℕ → Bool) {s s₁ s' : Stream} {w w' : Formatter} {k : RecordNo} {t u : Bool} {e e' : Engine}
    → t ≡ next_is want s → t ≡ true → Got (take_any s) s w w' k s₁ → u ≡ is_block_arm x.tree k → Goes x (pump rule ▸ arm_comma x.tree u) s e e' s' → Goes x (with_comma x lay rule) s e e' s'
unfolding with_comma
comma_of {x} lay rule want {s} {u = u} q h g b y =
    let z : next_is (λ (k : ℕ). is_block_arm x.tree (no k)) s ≡ u = taken_is (next_in (λ (k : ℕ). is_block_arm x.tree (no k))) (is_block_arm x.tree) (λ k ks. refl) want q h g ∙ sym b in
    record { ran = rw z y.ran; at = rw z y.at }

module _ (x : Script) (lay : Below) where
  comma_takes : (rule : RecordNo → Plan) (want : ℕ → Bool) → Takes want (with_comma x lay rule)
  unfolding with_comma
  comma_takes rule want = record { less = λ s h. (pump_takes want rule takes_then comma_leaves x.tree (next_is (λ (k : ℕ). is_block_arm x.tree (no k)) s)).less s h }

  pub arms_fall : Falls (λ (s : Stream). s) (is x.tree Kind.ExprSelectArm) (with_comma x lay (select_arm x lay))
  arms_fall = taking_falls (comma_takes (select_arm x lay) (is x.tree Kind.ExprSelectArm))

  pub cases_take : Each (is x.tree Kind.ExprMatchArm) (λ (any : Bool). with_comma x lay (match_arm x lay any))
  cases_take = record { takes = λ any. comma_takes (match_arm x lay any) (is x.tree Kind.ExprMatchArm) }

-- ---- what is done with an arm

pub select_arm_lem : {x : Script} (lay : Below) (k : RecordNo) {a b c : Engine} → Makes x (make (Nl 1) then make (Comments Line)) a b → Makes x (lay (Rule.Arm false) k) b c → Makes x (select_arm x lay k) a c
unfolding select_arm
select_arm_lem lay k m n = made.◌▹◌ m n

pub match_arm_lem : {x : Script} (lay : Below) (any : Bool) (k : RecordNo) {a b c : Engine} → Makes x (open_arm any) a b → Makes x (lay (Rule.Arm true) k) b c → Makes x (match_arm x lay any k) a c
unfolding match_arm
match_arm_lem lay any k m n = made.◌▹◌ m n
