-- Laws of modifiers: the rule by the byte of the kind, and the space between them. Assumes nothing.
use Rattle.lent.specs.declared.formatter.Formatter.{Formatter}
use Rattle.steps.proofs.Rules.{◌≡◌, refl, sym, subst, ◌∙◌, Bool, true, false, ◌||◌, List, ◌⊎◌, inl, inr, ℕ, zero, suc, ◌+◌, ◌-◌, ◌<◌, ◌≤◌}
use Rattle.steps.proofs.Rules.{arith, eqb, ne_eqb, Record, RecordNo, node_of, byte_of, facts_of, Ws, WrongKind, Script, make, refuse, ◌then◌, Engine}
use Rattle.steps.proofs.Rules.{engine, Makes, Refuses, write, parse, pump_takes, Each}
use Rattle.lent.proofs.MadeLaws as made
use Rattle.paths.specs.Attribute.{apart, is_word, modifier_word, modifier_in, modifier, next_modifier}

-- ---- by the byte of its kind

three : (n : ℕ) → 133 ≤ n → n < 136 → (eqb n 133 || eqb n 134 || eqb n 135) ≡ true
three n l h = let z : (n - 133) + 133 ≡ n = omega arith in subst (λ (n : ℕ). (eqb n 133 || eqb n 134 || eqb n 135) ≡ true) z (go (n - 133) (omega arith))
  where
    go : (m : ℕ) → m < 3 → (eqb (m + 133) 133 || eqb (m + 133) 134 || eqb (m + 133) 135) ≡ true
    go zero u = refl
    go (suc zero) u = refl
    go (suc (suc zero)) u = refl
    go (suc (suc (suc m))) u = absurd (omega arith)

module _ {x : Script} (rs : List Record) (any : Bool) (k : RecordNo) {n : ℕ} (q : n ≡ (node_of rs k.0).kind) where
  pub as_word : {e e' : Engine} → 133 ≤ n → n < 136 → Makes x (parse rs (modifier_word rs) k) e e' → Makes x (modifier rs any k) e e'
  unfolding modifier is_word byte_of facts_of
  as_word l h a = rw (← q, three n l h) a

  pub as_in : {e e' : Engine} → n ≡ 136 → Makes x (parse rs (modifier_in rs) k) e e' → Makes x (modifier rs any k) e e'
  unfolding modifier is_word byte_of facts_of
  as_in h a = rw (sym q ∙ h) a

  pub as_error : {w w' : Formatter} {b c : List ℕ} → n ≡ 254 → Refuses (refuse (WrongKind k)) w w' → Makes x (modifier rs any k) (engine w b c) (engine w' b c)
  unfolding modifier is_word byte_of facts_of
  as_error h a = rw (sym q ∙ h) (a.ran x _ _)

  pub as_other : {e e' : Engine} → ◌⊎◌ (n < 133) (136 ≤ n) → (n ≡ 136 → ⊥) → (n ≡ 254 → ⊥) → Makes x (apart any then write k) e e' → Makes x (modifier rs any k) e e'
  unfolding modifier is_word byte_of facts_of
  as_other o i w a = let far : (m : ℕ) → m < 3 → n ≡ 133 + m → ⊥ = λ m u e. elim o [ inl l ↦ omega arith | inr l ↦ omega arith ] in
      rw (← q, ne_eqb n 133 (far 0 (omega arith)), ne_eqb n 134 (far 1 (omega arith)), ne_eqb n 135 (far 2 (omega arith)), ne_eqb n 136 i, ne_eqb n 254 w) a

-- a space, or none
pub apart_so : {x : Script} {t : Bool} {e e' : Engine} → t ≡ true → Makes x (make Ws) e e' → Makes x (apart t) e e'
unfolding apart
apart_so h a = rw h a

pub apart_not : {x : Script} {t : Bool} {e : Engine} → t ≡ false → Makes x (apart t) e e
unfolding apart
apart_not h = rw h made.nothing_made

pub modifiers_take : (rs : List Record) → Each (λ (k : ℕ). true) (next_modifier rs)
modifiers_take rs = record { takes = λ any. pump_takes (λ (k : ℕ). true) (modifier rs any) }
