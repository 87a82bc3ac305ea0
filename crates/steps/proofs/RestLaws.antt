-- Laws of a token that may be missing. Assumes nothing.
use Rattle.lent.specs.declared.formatter.Formatter.{Formatter}
use Rattle.text.proofs.Base.{◌≡◌, refl, ap, subst, Bool, true, false, List, ℕ}
use Rattle.tree.specs.{declared.record.Record.Record, declared.record.RecordNo.RecordNo}
use Rattle.std.specs.Prelude.{Option, Some, None}
use Rattle.kinds.specs.declared.Kind.{Kind}
use Rattle.meaning.specs.{declared.call.Literal.Literal, declared.call.Call.TheVariants.Lit, State.Script, Plan.Plan, Plan.make}
use Rattle.meaning.specs.{Plan.◌then◌}
use Rattle.lent.specs.Loans.{Engine, engine, Makes, Refuses}
use Rattle.lent.proofs.MadeLaws as made
use Rattle.steps.specs.declared.remaining.Mark.{Mark}
use Rattle.steps.specs.declared.remaining.Remaining as code
use Rattle.steps.specs.declared.remaining.Remaining.TheVariants as held
use Rattle.walk.specs.Stream.{Stream, next_is, take_if, Ate}
use Rattle.walk.specs.Flow.{flow, write, ignored, is, not_met, Goes}
use Rattle.steps.specs.Remaining.{Remaining, token_of, literal_of, is_mark, fmt, ignore, is_present, write_if, write_only_if}
use Rattle.steps.specs.Remaining.{second, rest_if, remaining}
use Rattle.steps.specs.Remaining.{put_remaining, remaining_of, Rests, RestsWith}

-- ---- what is done with it

module _ {x : Script} (m : Mark) {r : code.Remaining} where
  pub put_there : {k : RecordNo} {e e' : Engine} → r ≡ held.There k → Makes x (write k) e e' → Makes x (fmt (remaining_of m r)) e e'
  unfolding fmt remaining_of
  put_there h a = rw h a

  pub put_gone : {e e' : Engine} {l : Literal} → r ≡ held.Missing → l ≡ literal_of m → Makes x (make (Lit l)) e e' → Makes x (fmt (remaining_of m r)) e e'
  unfolding fmt remaining_of
  put_gone h q a = rw (h, ← q) a

  pub put_fresh : {e : Engine} → r ≡ held.Fresh → Makes x (fmt (remaining_of m r)) e e
  unfolding fmt remaining_of
  put_fresh h = rw h made.nothing_made

  pub pass_there : {k : RecordNo} {e e' : Engine} → r ≡ held.There k → Makes x (ignored k) e e' → Makes x (ignore (remaining_of m r)) e e'
  unfolding ignore remaining_of
  pass_there h a = rw h a

  pub pass_not : {e : Engine} → ((k : RecordNo) → r ≡ held.There k → ⊥) → Makes x (ignore (remaining_of m r)) e e
  unfolding ignore remaining_of
  pass_not {e} h = go r h
    where
      go : (r : code.Remaining) → ((k : RecordNo) → r ≡ held.There k → ⊥) → Makes x (ignore (remaining_of m r)) e e
      go held.Fresh h = made.nothing_made
      go held.Missing h = made.nothing_made
      go (held.There k) h = absurd (h k refl)

module _ {x : Script} (r : Remaining) where
  pub if_needed : {t : Bool} {e e' : Engine} → t ≡ true → Makes x (fmt r) e e' → Makes x (write_if t r) e e'
  unfolding write_if
  if_needed h a = rw h a

  module _ {t u : Bool} (h : t ≡ false) (q : u ≡ is_present r) where
    pub if_present : {e e' : Engine} → u ≡ true → Makes x (fmt r) e e' → Makes x (write_if t r) e e'
    unfolding write_if
    if_present g a = rw (h, ← q, g) a

    pub if_neither : {e : Engine} → u ≡ false → Makes x (write_if t r) e e
    unfolding write_if
    if_neither g = rw (h, ← q, g) made.nothing_made

  pub only_yes : {t : Bool} {e e' : Engine} → t ≡ true → Makes x (fmt r) e e' → Makes x (write_only_if t r) e e'
  unfolding write_only_if
  only_yes h a = rw h a

  pub only_no : {t : Bool} {e e' : Engine} → t ≡ false → Makes x (ignore r) e e' → Makes x (write_only_if t r) e e'
  unfolding write_only_if
  only_no h a = rw h a

-- ---- taking one

module _ (rs : List Record) (m : Mark) (s : Stream) {kind : Kind} (e : kind ≡ token_of m) where
  mark_next : {t : Bool} → t ≡ next_is (is rs kind) s → t ≡ next_is (is_mark rs m) s
  mark_next {t} h = subst (λ (b : Kind). t ≡ next_is (is rs b) s) e h

  pub second_is : {t : Bool} {w w' : Formatter} → t ≡ next_is (is rs kind) s → t ≡ true → Refuses (not_met s) w w' → Refuses (second rs m s) w w'
  unfolding second
  second_is q h g = rw (← mark_next q, h) g

  pub second_none : {t : Bool} {w : Formatter} → t ≡ next_is (is rs kind) s → t ≡ false → Refuses (second rs m s) w w
  unfolding second
  second_none q h = rw (← mark_next q, h) made.nothing_refused

  module _ {s' : Stream} {o : Option RecordNo} (a : Ate (take_if (is rs kind) s) o s') where
    mark_ate : Ate (take_if (is_mark rs m) s) o s'
    mark_ate = subst (λ (b : Kind). Ate (take_if (is rs b) s) o s') e a

    pub rests_at : {k : RecordNo} {w w' : Formatter} → o ≡ Some k → Refuses (second rs m s') w w' → Rests rs m s w w' (remaining_of m (held.There k)) s'
    unfolding remaining rest_if remaining_of
    rests_at h q = let a = mark_ate in record { ran = rw (← a.rest, ← a.found, h) q; token = rw (← a.found, h) refl; rest = rw (← a.rest, ← a.found, h) refl }

    pub rests_none : {w : Formatter} → o ≡ None → Rests rs m s w w (remaining_of m held.Missing) s'
    unfolding remaining rest_if remaining_of
    rests_none h = let a = mark_ate in record { ran = rw (← a.found, h) made.nothing_refused; token = rw (← a.found, h) refl; rest = rw (← a.rest, ← a.found, h) refl }

-- something is done behind it
pub rests_with : {x : Script} {rs : List Record} {m : Mark} (g : Remaining → Plan) {s s' : Stream} {w w' : Formatter} {q b : List ℕ} {r : Remaining} {e : Engine} → Rests rs m s w w' r s' → Makes x (g r) (engine w' q b) e → RestsWith x rs m g s (engine w q b) e r s'
rests_with {x} g {q = q} {b = b} a h = record { ran = made.◌▹◌ (a.ran.ran x q b) (made.made_as (ap g a.token) h); token = a.token; rest = a.rest }

pub rest_then : {x : Script} {rs : List Record} {m : Mark} (g : Remaining → Plan) {s s' : Stream} {w w' : Formatter} {q b : List ℕ} {r : Remaining} {e : Engine} → Rests rs m s w w' r s' → Makes x (g r) (engine w' q b) e
    → Goes x (λ s. flow ((remaining rs m s).plan then g (remaining rs m s).token) (remaining rs m s).rest) s (engine w q b) e s'
rest_then g a h = let y = rests_with g a h in record { ran = y.ran; at = y.rest }

-- the token is written at once
pub put_rest : {x : Script} {rs : List Record} {m : Mark} {s s' : Stream} {w w' : Formatter} {q b : List ℕ} {r : Remaining} {e : Engine} → Rests rs m s w w' r s' → Makes x (fmt r) (engine w' q b) e → Goes x (put_remaining rs m) s (engine w q b) e s'
unfolding put_remaining
put_rest a h = rest_then fmt a h
