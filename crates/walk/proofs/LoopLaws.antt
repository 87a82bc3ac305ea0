-- A loop under way: what is left to do from here, done now, gives what the whole gives from the start. Assumes nothing.
use Rattle.text.proofs.Base.{◌≡◌, refl, sym, ap, ◌∙◌, Bool, true, false, cond, List, [], ◌∷◌, ℕ, zero, suc, ◌<◌, ◌≤◌, arith, length}
use Rattle.meaning.specs.{State.Script, Plan.nothing, Plan.◌then◌, Plan.exec}
use Rattle.lent.specs.Loans.{Engine, reads}
use Rattle.walk.specs.{Stream.Stream, Stream.next_in, Stream.next_is, Flow.Flow, Flow.flow, Flow.◌▸◌, Flow.Goes, Loop.turns, Loop.loop}

-- a turn takes a record
pub record Falls {S : Type 0} (at : S → Stream) (want : ℕ → Bool) (turn : S → Flow S) : Type 0 where
  pub less : (s : S) → next_is want (at s) ≡ true → length (at (turn s).rest).left < length (at s).left

module _ {S : Type 0} (at : S → Stream) (want : ℕ → Bool) (turn : S → Flow S) where
  -- the number of turns does not matter where it is enough
  enough : Falls at want turn → (n m : ℕ) (s : S) → length (at s).left ≤ n → length (at s).left ≤ m → turns at want turn n s ≡ turns at want turn m s
  unfolding turns ◌▸◌
  enough f zero zero s p q = refl
  enough f zero (suc m) s p q = none (at s).left refl
    where
      none : (l : List ℕ) → (at s).left ≡ l → flow nothing s ≡ cond (next_in want (at s).left) ((turn ▸ turns at want turn m) s) (flow nothing s)
      none [] e = rw e
      none (k ∷ ks) e = absurd (omega (arith, ap length e))
  enough f (suc n) zero s p q = none (at s).left refl
    where
      none : (l : List ℕ) → (at s).left ≡ l → cond (next_in want (at s).left) ((turn ▸ turns at want turn n) s) (flow nothing s) ≡ flow nothing s
      none [] e = rw e
      none (k ∷ ks) e = absurd (omega (arith, ap length e))
  enough f (suc n) (suc m) s p q = go (next_is want (at s)) refl (enough f n m (turn s).rest)
    where
      go : (t : Bool) → next_is want (at s) ≡ t → (length (at (turn s).rest).left ≤ n → length (at (turn s).rest).left ≤ m → turns at want turn n (turn s).rest ≡ turns at want turn m (turn s).rest)
          → cond t ((turn ▸ turns at want turn n) s) (flow nothing s) ≡ cond t ((turn ▸ turns at want turn m) s) (flow nothing s)
      go true e k = let l = f.less s e in rw (k (omega arith) (omega arith))
      go false e k = refl

  loop_stop : (s : S) → next_is want (at s) ≡ false → loop at want turn s ≡ flow nothing s
  unfolding loop turns
  loop_stop s e = go (length (at s).left)
    where
      go : (n : ℕ) → turns at want turn n s ≡ flow nothing s
      go zero = refl
      go (suc n) = rw e

  loop_more : Falls at want turn → (s : S) → next_is want (at s) ≡ true → loop at want turn s ≡ (turn ▸ loop at want turn) s
  unfolding loop turns ◌▸◌
  loop_more f s e = go (length (at s).left) refl
    where
      l : length (at (turn s).rest).left < length (at s).left
      l = f.less s e

      go : (n : ℕ) → length (at s).left ≡ n → turns at want turn n s ≡ flow ((turn s).plan then (turns at want turn (length (at (turn s).rest).left) (turn s).rest).plan) (turns at want turn (length (at (turn s).rest).left) (turn s).rest).rest
      go zero q = absurd (omega (arith, l))
      go (suc n) q = rw (e, enough f n (length (at (turn s).rest).left) (turn s).rest (omega (arith, l)) (omega arith)) refl

pub record Going {S : Type 0} (x : Script) (at : S → Stream) (want : ℕ → Bool) (turn : S → Flow S) (s₀ : S) (e₀ : Engine) (s : S) (e : Engine) : Type 0 where
  pub plan : exec x (loop at want turn s).plan (reads e) ≡ exec x (loop at want turn s₀).plan (reads e₀)
  pub rest : (loop at want turn s).rest ≡ (loop at want turn s₀).rest

module _ {S : Type 0} {x : Script} {at : S → Stream} {want : ℕ → Bool} {turn : S → Flow S} where
  pub starts : {s : S} {e : Engine} → Going x at want turn s e s e
  starts = record { plan = refl; rest = refl }

  pub goes_on : {s₀ s s' : S} {e₀ e e' : Engine} {t : Bool} → Falls at want turn → t ≡ next_is want (at s) → t ≡ true → Goes x turn s e e' s' → Going x at want turn s₀ e₀ s e → Going x at want turn s₀ e₀ s' e'
  unfolding exec ◌▸◌
  goes_on {s₀} {s} {s'} {e₀} {e} {e'} f q h y g =
      let m = loop_more at want turn f s (sym q ∙ h) in
      record {
        plan = rw (y.at, y.ran.ran.ran) (sym (ap (λ (o : Flow S). exec x o.plan (reads e)) m) ∙ g.plan);
        rest = rw y.at (sym (ap (λ (o : Flow S). o.rest) m) ∙ g.rest);
      }

  pub done : {s₀ s : S} {e₀ e : Engine} {t : Bool} → t ≡ next_is want (at s) → t ≡ false → Going x at want turn s₀ e₀ s e → Goes x (loop at want turn) s₀ e₀ e s
  unfolding exec
  done {s₀} {s} {e₀} {e} q h g =
      let m = loop_stop at want turn s (sym q ∙ h) in
      record {
        ran = record { ran = record { ran = sym (ap (λ (o : Flow S). exec x o.plan (reads e)) m) ∙ g.plan } };
        at = sym (ap (λ (o : Flow S). o.rest) m) ∙ g.rest;
      }

  -- what is left falls with each turn
  pub falls : {s s' : S} {e e' : Engine} {t : Bool} → Falls at want turn → t ≡ next_is want (at s) → t ≡ true → Goes x turn s e e' s' → length (at s').left < length (at s).left
  falls {s = s} f q h y = rw y.at (f.less s (sym q ∙ h))
