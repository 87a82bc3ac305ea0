-- A `match` on an enum without fields. All that an arm knows of the value, a `_` too, is at which place among the cases its own stands:
-- `OneOf places (tag_of k)`. `arm` turns that into "a function of the value gives v": the arm's places are those at which what the function
-- gives passes a test, and at each of them it gives v. `every` is about all cases: two functions that agree at each are equal. Both are used
-- with `refl`, as the places and the values compute. An arm of several cases names them in the enum's order: its places stand as written.
use Prim.Native.Nat.{ℕ, zero, suc}
use mathlib.Core.Path.{◌≡◌, refl, sym, ap, ◌∙◌}
use mathlib.Core.Bool.{Bool, true, false}
use mathlib.Core.Logic.{inl, inr}
use mathlib.Core.List.{List, [], ◌∷◌, map}
use lib.ListN.{get_or}
use types.Run.{OneOf}
use denote.Struct.Field.{Field}
use denote.Enum.Enum.{tag}
use denote.Enum.Declared.{Record, Choice, rowss, intoss, tag_of, declared}

-- no case has a field
abbrev pub Bare : List (List Field) → Type 0
Bare [] = Unit {0}
Bare ([] ∷ rest) = Bare rest
Bare ((f ∷ fs) ∷ rest) = ⊥

-- the cases, in the order in which the enum has them
abbrev pub all : {D : Type 0} (fields : List (List Field)) → (Choice fields → D) → List D
all [] make = []
all ([] ∷ rest) make = make (inl tt) ∷ all rest (λ c. make (inr c))
all ((f ∷ fs) ∷ rest) make = []

-- each stands at the place that its tag says
at_place : {D : Type 0} (fields : List (List Field)) → Bare fields → (d : D) (make : Choice fields → D) (c : Choice fields) → get_or (all fields make) (tag (rowss fields) (intoss fields c)) d ≡ make c
at_place [] bare d make c = absurd c
at_place ([] ∷ rest) bare d make (inl x) = refl
at_place ([] ∷ rest) bare d make (inr c) = at_place rest bare d (λ c. make (inr c)) c
at_place ((f ∷ fs) ∷ rest) bare d make c = absurd bare

abbrev pub first : {A : Type 0} → A → List A → A
first a [] = a
first a (x ∷ xs) = x

abbrev pub tail : {A : Type 0} → List A → List A
tail [] = []
tail (x ∷ xs) = xs

abbrev pub keep : Bool → ℕ → List ℕ → List ℕ
keep true n ns = n ∷ ns
keep false n ns = ns

-- the places, from n on, of what passes a test
abbrev passing : {D : Type 0} → (D → Bool) → ℕ → List D → List ℕ
passing test n [] = []
passing test n (x ∷ xs) = keep (test x) n (passing test (suc n) xs)

module _ (N : Record) (bare : Bare N.parts) (d : N.D) where
  abbrev pub cases : List N.D
  cases = all N.parts N.make

  abbrev pub at : ℕ → N.D
  at n = get_or cases n d

  pub at_tag : (k : N.D) → at (tag_of (declared N) k) ≡ k
  at_tag k = at_place N.parts bare d N.make (N.as_values k) ∙ N.eta k

  module _ {A : Type 0} (f g : N.D → A) where
    agree : (xs : List N.D) (n : ℕ) → f d ≡ g d → map f xs ≡ map g xs → f (get_or xs n d) ≡ g (get_or xs n d)
    agree [] n e es = e
    agree (x ∷ xs) zero e es = ap (first (f x)) es
    agree (x ∷ xs) (suc n) e es = agree xs n e (ap tail es)

    pub every : f d ≡ g d → map f cases ≡ map g cases → (k : N.D) → f k ≡ g k
    every e es k = ap f (sym (at_tag k)) ∙ agree cases (tag_of (declared N) k) e es ∙ ap g (at_tag k)

  module _ {A : Type 0} (f : N.D → A) (v : A) where
    -- f gives v at each of these places
    abbrev Gives : List ℕ → Type 0
    Gives places = map (λ (p : ℕ). f (at p)) places ≡ map (λ (p : ℕ). v) places

    given : (places : List ℕ) (n : ℕ) → Gives places → OneOf places n → f (at n) ≡ v
    given [] n gives h = absurd h
    given (p ∷ []) n gives h = ap (λ (m : ℕ). f (at m)) h ∙ ap (first v) gives
    given (p ∷ q ∷ ps) n gives (inl h) = ap (λ (m : ℕ). f (at m)) h ∙ ap (first v) gives
    given (p ∷ q ∷ ps) n gives (inr h) = given (q ∷ ps) n (ap tail gives) h

    module _ (test : A → Bool) where
      abbrev places : List ℕ
      places = passing (λ k. test (f k)) 0 cases

      pub arm : (k : N.D) → Gives places → OneOf places (tag_of (declared N) k) → v ≡ f k
      arm k gives h = sym (given places (tag_of (declared N) k) gives h) ∙ ap f (at_tag k)
