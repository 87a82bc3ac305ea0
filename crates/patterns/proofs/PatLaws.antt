-- Laws of the rules of patterns: the ends of tuples and objects, that a turn takes a record, and the depth that is left. Assumes nothing.
use Rattle.lent.specs.declared.formatter.Formatter.{Formatter}
use Rattle.steps.proofs.Rules.{◌≡◌, refl, Bool, true, false, not, cond, List, [], ◌∷◌, ℕ, zero, suc, ◌-◌, ◌<◌, length, arith, Record}
use Rattle.steps.proofs.Rules.{RecordNo, Kind, byte_of, Infix, Comments, Ws, TreeDeep, Script, Plan, nothing, make, refuse, ◌then◌, Engine, engine}
use Rattle.steps.proofs.Rules.{Makes, Refuses, Stream, stream, next_in, next_is, take_if, ◌▸◌, write, pump, expect_byte}
use Rattle.steps.proofs.Rules.{is, eat, if_next, either, parse, Goes, Remaining, fmt, ignore, says, Place, place, turn, ◌▹◌}
use Rattle.steps.specs.declared.items.Few.{Few}
use Rattle.steps.specs.declared.items.Few.TheVariants.{Zero, One, Many}
use Rattle.steps.proofs.Rules.{steady, Falls, Takes, Leaves, pump_leaves, expect_leaves, plain_leaves, next_leaves, ◌leaves_then◌, plain_takes}
use Rattle.steps.proofs.Rules.{turn_falls}
use Rattle.steps.specs.Remaining.{write_only_if}
use Rattle.lent.proofs.MadeLaws as made
use Rattle.paths.specs.Path.{path}
use Rattle.patterns.specs.Pattern.{tuple_end, tupled, tuple_rule, pat_tuple, is_key, key_or_dots, colon_pat, object_item, keyed, silent, object_closing}
use Rattle.patterns.specs.Pattern.{object_end, pat_attributes, pat_child, pat}

-- ---- the end of a tuple

module _ {x : Script} {n : Few} (t : Bool) (comma : Remaining) {e e' : Engine} where
  pub tuple_none : {e'' : Engine} → n ≡ Zero → Makes x (ignore comma) e e' → Makes x (make (Comments Infix)) e' e'' → Makes x (tuple_end t n comma) e e''
  tuple_none h a b = rw h (made.◌▹◌ a b)

  pub tuple_one : n ≡ One → Makes x (write_only_if t comma) e e' → Makes x (tuple_end t n comma) e e'
  unfolding write_only_if
  tuple_one h a = rw h (go t a)
    where
      go : (t : Bool) → Makes x (cond t (fmt comma) (ignore comma)) e e' → Makes x (tuple_end t One comma) e e'
      go true a = a
      go false a = a

  pub tuple_many : n ≡ Many → Makes x (ignore comma) e e' → Makes x (tuple_end t n comma) e e'
  tuple_many h a = rw h a

pub tuple_ends : {x : Script} (trailing : Bool) {s : Stream} {c : Remaining} {n : Few} {e e' : Engine} → Makes x (tuple_end trailing n c) e e' → Goes x (tupled trailing) (place s c n) e e' s
unfolding tupled
tuple_ends trailing a = record { ran = a; at = refl }

-- the path in front says whether the comma of a single item stays
pub tuple_of : {x : Script} {e e' : Engine} {s s' : Stream} (rs : List Record) (pat : RecordNo → Plan) {t : Bool} → t ≡ next_is (is rs Kind.Path) s
    → Goes x (eat rs Kind.Path (path rs 64) ▸ tuple_rule rs pat (not t)) s e e' s' → Goes x (pat_tuple rs pat) s e e' s'
unfolding pat_tuple
tuple_of rs pat e y = record { ran = rw (← e) y.ran; at = rw (← e) y.at }

-- ---- the end of an object

module _ {x : Script} (comma : Remaining) {e e' e'' : Engine} {t : Bool} (q : t ≡ says comma) (a : Makes x (ignore comma) e e') where
  pub object_closed : t ≡ true → Makes x (make Ws) e' e'' → Makes x (object_closing comma) e e''
  unfolding object_closing
  object_closed h b = rw (← q, h) (made.◌▹◌ a b)

  pub object_empty : t ≡ false → Makes x (make (Comments Infix)) e' e'' → Makes x (object_closing comma) e e''
  unfolding object_closing
  object_empty h b = rw (← q, h) (made.◌▹◌ a b)

pub object_ends : {x : Script} {s : Stream} {c : Remaining} {n : Few} {e e' : Engine} → Makes x (object_closing c) e e' → Goes x object_end (place s c n) e e' s
unfolding object_end
object_ends a = record { ran = a; at = refl }

-- ---- the items of an object

pub keyed_item : {x : Script} (rs : List Record) (pat : RecordNo → Plan) (c : Remaining) {s s' : Stream} {e e' e'' e''' : Engine} → Makes x (fmt c) e e' → Makes x (make Ws) e' e'' → Goes x (object_item rs pat) s e'' e''' s' → Goes x (keyed rs pat c) s e e''' s'
unfolding keyed
keyed_item rs pat c a b i = steady (made.◌▹◌ a b) ▹ i

colon_leaves : (rs : List Record) (pat : RecordNo → Plan) → Leaves (colon_pat rs pat)
unfolding colon_pat
colon_leaves rs pat = next_leaves (is rs Kind.Colon) (pump_leaves write leaves_then plain_leaves (make Ws) leaves_then expect_leaves rs (byte_of Kind.Pat) pat) (plain_leaves nothing)

object_takes : (rs : List Record) (pat : RecordNo → Plan) → Takes (key_or_dots rs) (object_item rs pat)
unfolding key_or_dots either object_item if_next pump expect_byte take_if ◌▸◌
object_takes rs pat = record { less = λ s h. go s.node s.left h }
  where
    go : (n : RecordNo) (ks : List ℕ) → next_in (key_or_dots rs) ks ≡ true → length (object_item rs pat (stream n ks)).rest.left < length ks
    go n [] h = let z : ◌≡◌ {A = ℕ} 0 1 = cc in absurd (omega arith)
    go n (k ∷ ks) h = by (is_key rs k) refl
      where
        by : (t : Bool) → is_key rs k ≡ t → length (object_item rs pat (stream n (k ∷ ks))).rest.left < suc (length ks)
        by true e = rw e (omega (arith, (colon_leaves rs pat).most (stream n ks)))
        by false e = let d : is rs Kind.DotDot k ≡ true = rw e at h in rw (e, d) (omega arith)

-- they take a record each
pub object_falls : (rs : List Record) (pat : RecordNo → Plan) → Falls (λ (s : Place). s.rest) (key_or_dots rs) (turn rs (keyed rs pat) silent)
unfolding keyed
object_falls rs pat = turn_falls rs silent (λ c. plain_takes (fmt c then make Ws) (object_takes rs pat))

-- ---- the depth that is left

module _ {x : Script} (rs : List Record) (k : RecordNo) where
  pub too_deep : {d : ℕ} {w w' : Formatter} {q b : List ℕ} → d ≡ 0 → Refuses (refuse (TreeDeep k)) w w' → Makes x (pat rs d k) (engine w q b) (engine w' q b)
  unfolding pat
  too_deep e h = rw e (h.ran x _ _)

  pub deep : (d : ℕ) {e e' : Engine} → (d ≡ 0 → ⊥) → Makes x (parse rs (pat_attributes rs ▸ pump (pat_child rs (pat rs (d - 1)))) k) e e' → Makes x (pat rs d k) e e'
  unfolding pat
  deep zero h a = absurd (h refl)
  deep (suc d) h a = let z : suc d - 1 ≡ d = omega arith in rw z at a
