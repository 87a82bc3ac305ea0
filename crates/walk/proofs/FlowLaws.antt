-- Steps one after the other, in the order of the code. Assumes nothing.
use Rattle.lent.specs.declared.formatter.Formatter.{Formatter}
use Rattle.text.proofs.Base.{◌≡◌, refl, sym, ap, ◌∙◌, Bool, List, ℕ, length}
use Rattle.std.specs.Prelude.{Option, Some, None}
use Rattle.tree.specs.{declared.record.Record.Record, declared.record.RecordNo.RecordNo}
use Rattle.meaning.specs.{declared.answer.Refusal.Refusal, declared.answer.Refusal.TheVariants.WrongKind, State.Script, Plan.Plan, Plan.nothing}
use Rattle.meaning.specs.{Plan.refuse}
use Rattle.lent.specs.Loans.{Engine, engine, Makes, Refuses}
use Rattle.lent.proofs.MadeLaws as made
use Rattle.walk.specs.Stream.{Stream, no, records_of, is_byte, Peeked, Took, take_if, take_any, Ate}
use Rattle.walk.specs.Flow.{Flow, ◌▸◌, plain, given, on_found, not_met, pump, expect_byte, eat_byte, left_over, parse, Goes, number_of, asked, Asks, Got}
use Rattle.walk.proofs.StreamLaws.{left_at, left_none, none_is, none_stays}

-- ---- steps

infixr 50 ◌▹◌
pub ◌▹◌ : {S T U : Type 0} {x : Script} {f : S → Flow T} {g : T → Flow U} {e e' e'' : Engine} {s : S} {s' : T} {s'' : U} → Goes x f s e e' s' → Goes x g s' e' e'' s'' → Goes x (f ▸ g) s e e'' s''
unfolding ◌▸◌
◌▹◌ {T = T} {g = g} a b = let h = a.at in record { ran = made.◌▹◌ a.ran (made.made_as (ap (λ (z : T). (g z).plan) h) b.ran); at = b.at ∙ ap (λ (z : T). (g z).rest) h }

-- a plan that takes no record
pub steady : {S : Type 0} {x : Script} {p : Plan} {e e' : Engine} {s : S} → Makes x p e e' → Goes x (plain p) s e e' s
unfolding plain
steady h = record { ran = h; at = refl }

-- the plan of a step that hands on nothing else
pub kept_length : {S T : Type 0} {x : Script} {f : S → Flow T} {s : S} {w : Formatter} {q b : List ℕ} {w' : Formatter} {q' b' : List ℕ} {s' : T} → Goes x f s (engine w q b) (engine w' q' b') s' → length b' ≡ length b
kept_length h = made.keeps h.ran

-- ---- a record that was taken, or refused

module _ {x : Script} where
  or_refused : (f : RecordNo → Plan) (r : Refusal) {e e' e'' : Engine} (o : Option RecordNo) → Makes x (on_found o (λ k. nothing) (refuse r)) e e' → Makes x (f (number_of o)) e' e'' → Makes x (on_found o f (refuse r)) e e''
  unfolding on_found
  or_refused f r (Some j) a b = made.nothing_then a b
  or_refused f r None a b = made.behind_refusal a b

  -- however it was to be taken
  pub got : (t : Stream → Took) (f : RecordNo → Plan) {s s' : Stream} {w w' : Formatter} {q b : List ℕ} {k : RecordNo} {e : Engine} → Got (t s) s w w' k s' → Makes x (f k) (engine w' q b) e → Goes x (λ s. given (t s) f (not_met s)) s (engine w q b) e s'
  got t f {s} {q = q} {b = b} g h = record { ran = or_refused f _ (t s).found (g.ran.ran x q b) (made.made_as (ap f g.found) h); at = g.rest }

  pub pumped : (f : RecordNo → Plan) {s s' : Stream} {w w' : Formatter} {q b : List ℕ} {k : RecordNo} {e : Engine} → Got (take_any s) s w w' k s' → Makes x (f k) (engine w' q b) e → Goes x (pump f) s (engine w q b) e s'
  unfolding pump
  pumped f g h = got take_any f g h

  pub expected : (rs : List Record) (kind : ℕ) (f : RecordNo → Plan) {s s' : Stream} {w w' : Formatter} {q b : List ℕ} {k : RecordNo} {e : Engine} → Got (take_if (is_byte rs kind) s) s w w' k s' → Makes x (f k) (engine w' q b) e → Goes x (expect_byte rs kind f) s (engine w q b) e s'
  unfolding expect_byte
  expected rs kind f g h = got (take_if (is_byte rs kind)) f g h

-- ---- a record that was eaten, or not

module _ {x : Script} (rs : List Record) (kind : ℕ) (f : RecordNo → Plan) {s s' : Stream} {o : Option RecordNo} (a : Ate (take_if (is_byte rs kind) s) o s') where
  pub eaten : {k : RecordNo} {e e' : Engine} → o ≡ Some k → Makes x (f k) e e' → Goes x (eat_byte rs kind f) s e e' s'
  unfolding eat_byte on_found
  eaten h g = record { ran = rw (← a.found, h) g; at = a.rest }

  pub eaten_not : {e : Engine} → ((k : RecordNo) → o ≡ Some k → ⊥) → Goes x (eat_byte rs kind f) s e e s'
  unfolding eat_byte on_found
  eaten_not h = record { ran = rw (← a.found, none_is h) made.nothing_made; at = a.rest }

-- ---- taking it

module _ {s : Stream} {o : Option RecordNo} {w : Formatter} where
  pub found_it : {k : RecordNo} → o ≡ Some k → Asks o s w w k
  unfolding on_found
  found_it h = record { ran = rw h made.nothing_refused; found = rw h refl }

  pub found_none : {w' : Formatter} → o ≡ None → Refuses (not_met s) w w' → Asks o s w w' (no 8192)
  unfolding on_found
  found_none h r = record { ran = rw h r; found = rw h refl }

pub got_so : (want : ℕ → Bool) {s s' : Stream} {o : Option RecordNo} {w w' : Formatter} {k : RecordNo} → Ate (take_if want s) o s' → Asks o s' w w' k → Got (take_if want s) s w w' k s'
unfolding on_found
got_so want {s} {s'} {o} {w} {w'} {k} a q = record { ran = go (take_if want s).found refl a.found q.ran; found = q.found ∙ ap number_of a.found; rest = a.rest }
  where
    go : (f : Option RecordNo) → (take_if want s).found ≡ f → o ≡ (take_if want s).found → Refuses (asked o s') w w' → Refuses (asked (take_if want s).found s) w w'
    go (Some j) h e r = rw h (made.refuses_as (ap (λ (o : Option RecordNo). asked o s') (e ∙ h)) r)
    go None h e r = rw h (made.refuses_as (ap (λ (o : Option RecordNo). asked o s') (e ∙ h) ∙ ap not_met (a.rest ∙ none_stays want s h)) r)

-- ---- a node's rule

-- over the node's records, and none is left over
pub parsed : {x : Script} (rs : List Record) (rule : Stream → Flow Stream) {k : RecordNo} {e : Engine} {w w' : Formatter} {q b : List ℕ} {s s' : Stream} → s ≡ records_of rs k → Goes x rule s e (engine w q b) s' → Refuses (left_over s') w w' → Makes x (parse rs rule k) e (engine w' q b)
unfolding parse
parsed {x} rs rule {k} {q = q} {b = b} h f l = made.◌▹◌ (made.made_as (ap (λ (z : Stream). (rule z).plan) h) f.ran) (made.made_as (ap left_over (f.at ∙ ap (λ (z : Stream). (rule z).rest) h)) (l.ran x q b))

module _ {s : Stream} {o : Option RecordNo} (e : Peeked s o) where
  pub over : {k : RecordNo} {w w' : Formatter} → o ≡ Some k → Refuses (refuse (WrongKind k)) w w' → Refuses (left_over s) w w'
  over h r = made.refuses_as (sym (left_at e h)) r

  pub over_none : {w : Formatter} → ((k : RecordNo) → o ≡ Some k → ⊥) → Refuses (left_over s) w w
  over_none h = made.refuses_as (sym (left_none e (none_is h))) made.nothing_refused
