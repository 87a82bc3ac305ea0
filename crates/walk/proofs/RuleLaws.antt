-- Laws of branches in the rules. Assumes nothing.
use Rattle.text.proofs.Base.{◌≡◌, refl, sym, ◌∙◌, Bool, true, false, cond, List, [], ◌∷◌, ℕ, eq-eqb, ne_eqb}
use Rattle.tree.specs.{declared.record.Record.Record, Table.node_of}
use Rattle.meaning.specs.{State.Script, Plan.Plan}
use Rattle.lent.specs.Loans.{Engine, Makes}
use Rattle.walk.specs.{Stream.Stream, Stream.is_byte, Stream.next_in, Stream.next_is, Flow.Flow, Flow.if_next, Flow.either, Flow.Goes}

module _ {x : Script} (p q : Plan) {t u : Bool} (e : t ≡ u) {a b : Engine} where
  pub if_so : t ≡ true → Makes x p a b → Makes x (cond u p q) a b
  if_so h g = rw (← e, h) g

  pub if_not : t ≡ false → Makes x q a b → Makes x (cond u p q) a b
  if_not h g = rw (← e, h) g

-- one step or another
module _ {S T : Type 0} {x : Script} (f g : S → Flow T) {t u : Bool} (e : t ≡ u) {s : S} {a b : Engine} {s' : T} where
  pub step_so : t ≡ true → Goes x f s a b s' → Goes x (cond u f g) s a b s'
  step_so h y = rw (← e, h) y

  pub step_not : t ≡ false → Goes x g s a b s' → Goes x (cond u f g) s a b s'
  step_not h y = rw (← e, h) y

module _ {T : Type 0} {x : Script} (want : ℕ → Bool) (f g : Stream → Flow T) {s : Stream} {t : Bool} (e : t ≡ next_is want s) {a b : Engine} {s' : T} where
  pub next_so : t ≡ true → Goes x f s a b s' → Goes x (if_next want f g) s a b s'
  unfolding if_next
  next_so h y = record { ran = rw (← e, h) y.ran; at = rw (← e, h) y.at }

  pub next_not : t ≡ false → Goes x g s a b s' → Goes x (if_next want f g) s a b s'
  unfolding if_next
  next_not h y = record { ran = rw (← e, h) y.ran; at = rw (← e, h) y.at }

-- ---- by the byte of a node's kind

module _ {x : Script} (rs : List Record) (k : ℕ) (p q : Plan) {n b : ℕ} (e : n ≡ (node_of rs k).kind) {a a' : Engine} where
  pub kind_is : n ≡ b → Makes x p a a' → Makes x (cond (is_byte rs b k) p q) a a'
  kind_is h g = rw (← e, eq-eqb n b h) g

  pub kind_other : (n ≡ b → ⊥) → Makes x q a a' → Makes x (cond (is_byte rs b k) p q) a a'
  kind_other h g = rw (← e, ne_eqb n b h) g

-- ---- one of two kinds is next

module _ (f g : ℕ → Bool) (s : Stream) {t : Bool} (e : t ≡ next_is f s) where
  pub either_first : t ≡ true → true ≡ next_is (either f g) s
  unfolding either
  either_first h = go s.left (sym h ∙ e)
    where
      go : (l : List ℕ) → true ≡ next_in f l → true ≡ next_in (either f g) l
      go [] y = y
      go (k ∷ ks) y = rw (← y)

  pub either_second : {u : Bool} → t ≡ false → u ≡ next_is g s → u ≡ next_is (either f g) s
  unfolding either
  either_second h y = y ∙ go s.left (sym h ∙ e)
    where
      go : (l : List ℕ) → false ≡ next_in f l → next_in g l ≡ next_in (either f g) l
      go [] y = refl
      go (k ∷ ks) y = rw (← y)
