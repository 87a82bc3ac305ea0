-- Laws of the record that was taken where one stood next. Assumes nothing.
use Rattle.lent.specs.declared.formatter.Formatter.{Formatter}
use Rattle.steps.proofs.Rules.{◌≡◌, refl, sym, ap, ◌∙◌, Bool, true, List, [], ◌∷◌, ℕ, arith, RecordNo, Stream, next_in, next_is, take_in, take_if, take_any}
use Rattle.tree.specs.Cursor.{head_of}
use Rattle.walk.specs.Stream.{no}
use Rattle.walk.specs.Flow.{Got, number_of}

-- what is taken, whatever it is, is the first of the records left
pub take_head : (s : Stream) → (take_any s).found ≡ head_of s.left
unfolding take_if
take_head s = go s.left
  where
    go : (l : List ℕ) → (take_in (λ (k : ℕ). true) s.node l).found ≡ head_of l
    go [] = refl
    go (k ∷ ks) = refl

-- what is asked of it is what is asked of the next
pub taken_is : {A : Type 0} (f : List ℕ → A) (g : RecordNo → A) → ((k : ℕ) (ks : List ℕ) → f (k ∷ ks) ≡ g (no k)) → (want : ℕ → Bool) {s s' : Stream} {w w' : Formatter} {k : RecordNo} {t : Bool}
    → t ≡ next_is want s → t ≡ true → Got (take_any s) s w w' k s' → f s.left ≡ g k
taken_is f g same want {s} {k = k} q h a = go s.left (sym q ∙ h) (a.found ∙ ap number_of (take_head s))
  where
    go : (l : List ℕ) → next_in want l ≡ true → k ≡ number_of (head_of l) → f l ≡ g k
    go [] w e = let z : ◌≡◌ {A = ℕ} 0 1 = cc in absurd (omega arith)
    go (j ∷ js) w e = same j js ∙ ap g (sym e)
