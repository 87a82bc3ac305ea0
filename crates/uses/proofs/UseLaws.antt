-- Laws of uses: whether a group has one path, its braces, the depth that is left. Assumes nothing.
use Rattle.lent.specs.declared.formatter.Formatter.{Formatter}
use Rattle.std.specs.Prelude.{Option}
use Rattle.steps.proofs.Rules.{◌≡◌, refl, sym, ap, ◌∙◌, Bool, true, false, List, [], ◌∷◌, ◌⊎◌, inl, inr, ℕ, zero, suc, ◌-◌, ◌<◌, arith}
use Rattle.steps.proofs.Rules.{length, Record, RecordNo, Kind, TreeDeep, Script, Plan, refuse, Engine, engine, Makes, Refuses, Stream, records_of}
use Rattle.steps.proofs.Rules.{next_in, next_is, take_in, take_if, take_any, Ate, ◌▸◌, write, ignored, pump, expect, is, Goes, more}
use Rattle.steps.specs.declared.items.Few.{Few}
use Rattle.steps.specs.declared.items.Few.TheVariants.{Zero, One, Many}
use Rattle.steps.proofs.Rules.{list, pump_takes}
use Rattle.uses.specs.Use.{use_path_rule, how_many, is_one, braced, group_rule, use_path, use_group}

-- ---- whether one is wanted, and no more

-- none or one was found so far; the rest are yet to be counted
abbrev sofar : Bool → Few → Few
sofar false n = n
sofar true n = more n

pub record Single (want : ℕ → Bool) (s₀ s : Stream) (found : Bool) : Type 0 where
  pub counted : sofar found (how_many want s.left) ≡ how_many want s₀.left

pub none_found : {want : ℕ → Bool} {s : Stream} → Single want s s false
none_found = record { counted = refl }

more_one : (n : Few) → is_one (more (more n)) ≡ false
more_one Zero = refl
more_one One = refl
more_one Many = refl

module _ (want : ℕ → Bool) {s₀ s : Stream} {found t u : Bool} (e : t ≡ next_is (λ (k : ℕ). true) s) (h : t ≡ true) (f : u ≡ next_is want s) where
  -- the next is counted, if it is wanted, and is the first; or it is not wanted
  pub single_on : {found' : Bool} {k : Option RecordNo} {s' : Stream} → ◌⊎◌ ((u ≡ true) × (found ≡ false) × (found' ≡ true)) ((u ≡ false) × (found' ≡ found)) → Ate (take_any s) k s' → Single want s₀ s found → Single want s₀ s' found'
  unfolding how_many take_if
  single_on {found'} c a g = record { counted = rw a.rest (go s.node s.left (sym e ∙ h) (sym f) g.counted) }
    where
      go : (node : RecordNo) (ks : List ℕ) → next_in (λ (k : ℕ). true) ks ≡ true → next_in want ks ≡ u → sofar found (how_many want ks) ≡ how_many want s₀.left → sofar found' (how_many want (take_in (λ (k : ℕ). true) node ks).rest.left) ≡ how_many want s₀.left
      go node [] h w g = let z : ◌≡◌ {A = ℕ} 0 1 = cc in absurd (omega arith)
      go node (k ∷ ks) h w g = elim c [ inl y ↦ rw y.2 (rw (w ∙ y.0, y.1) at g) | inr y ↦ rw y.1 (rw (w ∙ y.0) at g) ]

  -- a second one
  pub single_not : u ≡ true → found ≡ true → Single want s₀ s found → false ≡ is_one (how_many want s₀.left)
  unfolding how_many
  single_not y z g = sym (ap is_one (sym g.counted) ∙ go s.left (sym f ∙ y))
    where
      go : (ks : List ℕ) → next_in want ks ≡ true → is_one (sofar found (how_many want ks)) ≡ false
      go [] w = let z : ◌≡◌ {A = ℕ} 0 1 = cc in absurd (omega arith)
      go (k ∷ ks) w = rw (w, z) (more_one (how_many want ks))

pub single_all : (want : ℕ → Bool) {s₀ s : Stream} {found t : Bool} → t ≡ next_is (λ (k : ℕ). true) s → t ≡ false → Single want s₀ s found → found ≡ is_one (how_many want s₀.left)
unfolding how_many
single_all want {s₀} {s} {found} e h g = go s.left (sym e ∙ h) g.counted
  where
    known : (found : Bool) → found ≡ is_one (sofar found Zero)
    known true = refl
    known false = refl

    go : (ks : List ℕ) → next_in (λ (k : ℕ). true) ks ≡ false → sofar found (how_many want ks) ≡ how_many want s₀.left → found ≡ is_one (how_many want s₀.left)
    go [] h g = known found ∙ ap is_one g
    go (k ∷ ks) h g = let z : ◌≡◌ {A = ℕ} 0 1 = cc in absurd (omega arith)

-- what is left falls
pub taken_less : (s : Stream) {s' : Stream} {k : Option RecordNo} {t : Bool} → t ≡ next_is (λ (k : ℕ). true) s → t ≡ true → Ate (take_any s) k s' → length s'.left < length s.left
unfolding pump
taken_less s e h a = rw a.rest ((pump_takes (λ (k : ℕ). true) write).less s (sym e ∙ h))

-- ---- a group

pub brace_ignored : {x : Script} {t : Bool} {k : RecordNo} {e e' : Engine} → t ≡ true → Makes x (ignored k) e e' → Makes x (braced t k) e e'
unfolding braced
brace_ignored h a = rw h a

pub brace_written : {x : Script} {t : Bool} {k : RecordNo} {e e' : Engine} → t ≡ false → Makes x (write k) e e' → Makes x (braced t k) e e'
unfolding braced
brace_written h a = rw h a

pub grouped : {x : Script} {e e' : Engine} {s s' : Stream} (rs : List Record) (path : RecordNo → Plan) {k : RecordNo} {t : Bool} → s ≡ records_of rs k → t ≡ is_one (how_many (is rs Kind.ItemUsePath) (records_of rs k).left)
    → Goes x (expect rs Kind.OpenBrace (braced t) ▸ list rs (is rs Kind.ItemUsePath) path ▸ expect rs Kind.CloseBrace (braced t)) s e e' s' → Goes x (group_rule rs path) s e e' s'
unfolding group_rule
grouped {s = s} rs path {t = t} h q g = let z : is_one (how_many (is rs Kind.ItemUsePath) s.left) ≡ t = ap (λ (s : Stream). is_one (how_many (is rs Kind.ItemUsePath) s.left)) h ∙ sym q in record { ran = rw z g.ran; at = rw z g.at }

-- ---- the depth that is left

module _ {x : Script} (rs : List Record) where
  pub use_none : (d : ℕ) {k : RecordNo} {s : Stream} {w w' : Formatter} {q b : List ℕ} → d ≡ 0 → k ≡ s.node → Refuses (refuse (TreeDeep k)) w w' → Goes x (use_path rs d) s (engine w q b) (engine w' q b) s
  unfolding use_path
  use_none d e n h = rw e (record { ran = rw (← n) (h.ran x _ _); at = refl })

  use_suc : (d : ℕ) {s s' : Stream} {e e' : Engine} → Goes x (use_path_rule rs (use_group rs d)) s e e' s' → Goes x (use_path rs (suc d)) s e e' s'
  unfolding use_path use_group
  use_suc d h = record { ran = h.ran; at = h.at }

  pub use_some : (d : ℕ) {s s' : Stream} {e e' : Engine} → (d ≡ 0 → ⊥) → Goes x (use_path_rule rs (use_group rs (d - 1))) s e e' s' → Goes x (use_path rs d) s e e' s'
  use_some zero e h = absurd (e refl)
  use_some (suc d) e h = let z : suc d - 1 ≡ d = omega arith in use_suc d (rw z at h)
