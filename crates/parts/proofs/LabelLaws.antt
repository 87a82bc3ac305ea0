-- Laws of labels and jumps: a turn takes a record, and `continue` takes no value. Assumes nothing.
use Rattle.lent.specs.declared.formatter.Formatter.{Formatter}
use Rattle.steps.proofs.Rules.{◌≡◌, refl, ◌∙◌, Bool, false, List, [], ◌∷◌, ℕ, ne_eqb, Record, Kind, byte_of, Ws, make, Stream, next_in}
use Rattle.steps.proofs.Rules.{next_is, ◌▸◌, call, write, pump, is, put_remaining, Falls, pump_takes, put_leaves, plain_leaves, plain_takes, ◌takes_then◌}
use Rattle.steps.proofs.Rules.{◌leaves_then◌, taking_falls, RecordNo, take_if, take_any, true, ◌||◌, sym, arith, Script, Engine, Goes, ◌▹◌, done, starts, eaten_not}
use Rattle.std.proofs.lemmas.Option.{none-some}
use Rattle.walk.proofs.StreamLaws.{took_not}
use Rattle.paths.specs.Attribute.{modifiers}
use Rattle.patterns.specs.Pattern.{pat_attributes}
use Rattle.parts.specs.Labels.{preceded, before_expr, expr_labels}
use Rattle.text.proofs.Base.{eq-eqb}
use Rattle.steps.specs.declared.remaining.Mark.TheVariants.{Colon}
use Rattle.walk.specs.Flow.{Got}
use Rattle.parts.specs.Spaced.{is_expr, is_guard}
use Rattle.parts.specs.Leads.{lead_takes}

pub labels_fall : (rs : List Record) → Falls (λ (s : Stream). s) (is rs Kind.Label) (pump write ▸ put_remaining rs Colon ▸ call Ws)
labels_fall rs = taking_falls (pump_takes (is rs Kind.Label) write takes_then put_leaves rs Colon leaves_then plain_leaves (make Ws))

pub jumps_fall : (rs : List Record) → Falls (λ (s : Stream). s) (is rs Kind.Label) (call Ws ▸ pump write)
jumps_fall rs = taking_falls (plain_takes (make Ws) (pump_takes (is rs Kind.Label) write))

-- ---- whether anything stands in front of an expression

module _ (rs : List Record) (s : Stream) where
  pub attribute_next : {t : Bool} → t ≡ next_is (is rs Kind.Attribute) s → t ≡ true → true ≡ preceded rs s
  unfolding preceded
  attribute_next q h = rw (← q, h)

  module _ {t : Bool} (q : t ≡ next_is (is rs Kind.Attribute) s) (h : t ≡ false) where
    pub modifiers_next : {u : Bool} → u ≡ next_is (is rs Kind.Modifiers) s → u ≡ true → true ≡ preceded rs s
    unfolding preceded
    modifiers_next p g = rw (← q, h, ← p, g)

    pub label_next : {u v : Bool} → u ≡ next_is (is rs Kind.Modifiers) s → u ≡ false → v ≡ next_is (is rs Kind.Label) s → v ≡ preceded rs s
    unfolding preceded
    label_next p g r = rw (← q, h, ← p, g) r

none_of : (a b c : Bool) → a || b || c ≡ false → (a ≡ false) × (b ≡ false) × (c ≡ false)
none_of true b c h = let z : ◌≡◌ {A = ℕ} 0 1 = cc in absurd (omega arith)
none_of false true c h = let z : ◌≡◌ {A = ℕ} 0 1 = cc in absurd (omega arith)
none_of false false c h = (refl, refl, h)

-- then nothing is done
pub not_preceded : {x : Script} {e : Engine} (rs : List Record) (s : Stream) {t : Bool} → t ≡ preceded rs s → t ≡ false → Goes x (before_expr rs) s e e s
unfolding preceded before_expr pat_attributes modifiers expr_labels
not_preceded rs s q h =
    let n = none_of (next_is (is rs Kind.Attribute) s) (next_is (is rs Kind.Modifiers) s) (next_is (is rs Kind.Label) s) (sym q ∙ h) in
    done (sym n.0) refl starts ▹ eaten_not rs (byte_of Kind.Modifiers) _ (took_not (is rs Kind.Modifiers) s refl n.1) none-some ▹ done (sym n.2) refl starts

-- ---- whether a value stands behind a closure's arguments or a jump's word

module _ (rs : List Record) (s : Stream) {kind : ℕ} where
  pub takes_none : kind ≡ byte_of Kind.ExprContinue → false ≡ next_is (lead_takes rs kind) s
  unfolding lead_takes
  takes_none h = go s.left
    where
      go : (l : List ℕ) → false ≡ next_in (lead_takes rs kind) l
      go [] = refl
      go (k ∷ ks) = rw (eq-eqb _ _ h)

  pub takes_expr : {t : Bool} → (kind ≡ byte_of Kind.ExprContinue → ⊥) → t ≡ next_is (is_expr rs) s → t ≡ next_is (lead_takes rs kind) s
  unfolding lead_takes
  takes_expr h e = e ∙ go s.left
    where
      go : (l : List ℕ) → next_in (is_expr rs) l ≡ next_in (lead_takes rs kind) l
      go [] = refl
      go (k ∷ ks) = rw (ne_eqb _ _ h)

-- ---- what stands in front of `=>`

module _ (rs : List Record) {kind : ℕ} {s s' : Stream} {w w' : Formatter} {k : RecordNo} where
  pub guard_expr : kind ≡ byte_of Kind.If → Got (take_if (is_expr rs) s) s w w' k s' → Got (take_if (is_guard rs kind) s) s w w' k s'
  unfolding is_guard
  guard_expr h g = rw (eq-eqb _ _ h) g

  pub guard_any : (kind ≡ byte_of Kind.If → ⊥) → Got (take_any s) s w w' k s' → Got (take_if (is_guard rs kind) s) s w w' k s'
  unfolding is_guard
  guard_any h g = rw (ne_eqb _ _ h) g
