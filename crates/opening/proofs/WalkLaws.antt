-- The walk along a level: what holds between two siblings, and what the answers follow from. Assumes nothing.
use mathlib.Core.Path.{◌≡◌, refl, sym, ap, ap₂, ◌∙◌, subst}
use mathlib.Core.Logic.{⊎_elim}
use mathlib.Core.Bool.{Bool, true, false, cond}
use mathlib.Core.List.{List, [], ◌∷◌}
use Prim.Native.Nat.{ℕ, zero, suc, ◌+◌, ◌-◌, ◌≤◌, ◌<◌, ◌^◌, min, zero-le}
use native.Mathlib.Nat.{le_of_lt, min-eq_left, min-eq_right}
use native.Mathlib.Omega.{arith}
use lib.Dec.{leb, ltb}
use lib.ListN.{length, take, drop, get_or, length-drop}
use lib.Seq.{drop-drop, get_or-drop, length-take-le, take-length}
use borrow.Author.Tests.{leb-false, lt-leb, le-leb}
use Rattle.tree.specs.declared.record.Record.{Record}
use Rattle.opening.specs.declared.levels.Part.{Part}
use Rattle.std.specs.Prelude.{Result, Ok, Err}
use Rattle.opening.specs.declared.levels.Fault.{Fault}
use Rattle.opening.specs.declared.levels.Fault.TheVariants.{Bad, Deep}
use Rattle.tree.specs.Records.{four, body_of, cut_record, record_of, records_from, records, start_of, end_of}
use Rattle.opening.specs.Check.{Finding, bad, ◌then◌, keeps, along, level, verdict_as, checked}
use Rattle.opening.specs.Walk.{head_of, next_of, inside_of, behind_of, Holds, records_of, finding_of, Walk}
use Rattle.tree.proofs.RecordLaws.{whole_of, records_in, split, fits}
use Rattle.white.proofs.Bools.{le_or_lt}
use Rattle.opening.proofs.LevelLaws.{Kept, kept_of, under, level_none, turn, under_is, under_zero, level_few}

-- what a level finds of a part
abbrev pub level_of : List ℕ → List ℕ → ℕ → ℕ → Part → Finding
level_of src list hi d p = level src d 0 p.first.0 p.from.0 hi (records_of list p)

-- the siblings that are left say what all of them say
pub record Going (src list : List ℕ) (all : Part) (hi d : ℕ) (p : Part) : Type 0 where
  pub holds : Holds list p
  pub says : level_of src list hi d p ≡ level_of src list hi d all
  pub ends : drop p.left.0 (records (drop p.at list)) ≡ drop all.left.0 (records (drop all.at list))

pub begin : {src list : List ℕ} {all : Part} {hi d : ℕ} → Holds list all → Going src list all hi d all
begin h = record { holds = h; says = refl; ends = refl }

pub done : {src list : List ℕ} {all : Part} {hi d : ℕ} {p : Part} → Going src list all hi d p → p.left.0 ≤ 0 → Walk src list all hi d (Ok p.at)
done {src} {list} {all} {hi} {d} {p} v z = record {
  says = sym (ap (λ (k : ℕ). level src d 0 p.first.0 p.from.0 hi (take k (records (drop p.at list)))) none ∙ level_none src d 0 p.first.0 p.from.0 hi) ∙ v.says;
  ends = λ e q. last e (cc);
}
  where
    none : p.left.0 ≡ 0
    none = omega arith

    last : (e : ℕ) → p.at ≡ e → (e ≤ length list) × (records (drop e list) ≡ drop all.left.0 (records (drop all.at list)))
    last e q = rw (← q) (v.holds.within, sym (ap (λ (k : ℕ). drop k (records (drop p.at list))) none) ∙ v.ends)

abbrev is_good : Result ℕ Fault → Type 0
is_good (Ok e) = Unit {0}
is_good (Err e) = ⊥

refused : {src list : List ℕ} {all : Part} {hi d : ℕ} (f : Fault) → finding_of (Err f) ≡ level_of src list hi d all → Walk src list all hi d (Err f)
refused f s = record { says = s; ends = λ e q. absurd (subst is_good (sym q) tt) }

-- nothing is found behind what is refused
stops : (f : Fault) (g : Finding) → (finding_of (Err f) then g) ≡ finding_of (Err f)
stops (Bad i) g = refl
stops (Deep i) g = refl

-- ---- the first record of a part: what `look` says of it

module _ (src : List ℕ) (hi : ℕ) (p : Part) (r : Record) where
  pub look_many : 8192 ≤ p.first.0 → Err (Bad (record { 0 = 8192 })) ≡ next_of src p r hi
  unfolding next_of
  look_many h = sym (rw (le-leb 8192 p.first.0 h))

  pub look_kept : p.first.0 < 8192 → true ≡ keeps src p.from.0 hi (p.left.0 - 1) r → Ok tt ≡ next_of src p r hi
  unfolding next_of
  look_kept h k = sym (rw (lt-leb 8192 p.first.0 h, ← k))

  pub look_bad : p.first.0 < 8192 → false ≡ keeps src p.from.0 hi (p.left.0 - 1) r → Err (Bad p.first) ≡ next_of src p r hi
  unfolding next_of
  look_bad h k = sym (rw (lt-leb 8192 p.first.0 h, ← k))

-- it keeps the rules
pub record Meets (src list : List ℕ) (all : Part) (hi d : ℕ) (p : Part) (r : Record) : Type 0 where
  pub going : Going src list all hi d p
  pub some : 0 < p.left.0
  pub few : p.first.0 < 8192
  pub read : r ≡ head_of list p
  pub kept : keeps src p.from.0 hi (p.left.0 - 1) r ≡ true

pub meets : {src list : List ℕ} {all : Part} {hi d : ℕ} {p : Part} {n : Result (Unit {0}) Fault} {r : Record} {u : Unit {0}} → Going src list all hi d p → 0 < p.left.0 → r ≡ head_of list p → n ≡ next_of src p r hi → n ≡ Ok u → Meets src list all hi d p r
unfolding next_of
meets {src} {list} {all} {hi} {d} {p} {n} {r} {u} v some read e f = go (leb 8192 p.first.0) (keeps src p.from.0 hi (p.left.0 - 1) r) refl refl (sym f ∙ e)
  where
    go : (t k : Bool) → leb 8192 p.first.0 ≡ t → keeps src p.from.0 hi (p.left.0 - 1) r ≡ k → ◌≡◌ {A = Result (Unit {0}) Fault} (Ok u) (cond t (Err (Bad (record { 0 = 8192 }))) (cond k (Ok tt) (Err (Bad p.first)))) → Meets src list all hi d p r
    go true k a b g = let z : ◌≡◌ {A = ℕ} 0 1 = cc in absurd (omega arith)
    go false false a b g = let z : ◌≡◌ {A = ℕ} 0 1 = cc in absurd (omega arith)
    go false true a b g = record { going = v; some = some; few = leb-false 8192 p.first.0 a; read = read; kept = b }

-- ---- what the level finds, by its first record

module _ {src list : List ℕ} {all : Part} {hi d : ℕ} {p : Part} (v : Going src list all hi d p) (some : 0 < p.left.0) where
  here : p.at < length list
  here = records_in list p.at p.left.0 some v.holds.enough

  -- the records behind the first one
  later : Record → List Record
  later r = records (drop (p.at + 1 + body_of r.kind) list)

  first_split : (r : Record) → r ≡ head_of list p → records (drop p.at list) ≡ r ∷ later r
  unfolding later
  first_split r read = split list p.at (body_of r.kind) r here read refl

  rest : (r : Record) → r ≡ head_of list p → p.left.0 - 1 ≤ length (later r)
  unfolding later
  rest r read = omega (arith, ap length (first_split r read), v.holds.enough)

  -- the siblings behind the first one
  others : Record → Finding
  others r = level src d 0 (p.first.0 + 1 + r.below) (end_of r) hi (take (p.left.0 - 1 - r.below) (drop r.below (later r)))

  first_turn : (r : Record) → r ≡ head_of list p → level_of src list hi d p ≡ cond (leb 8192 p.first.0) (bad 8192) (cond (keeps src p.from.0 hi (p.left.0 - 1) r) (under src d p.first.0 r (take (p.left.0 - 1) (later r)) then others r) (bad p.first.0))
  unfolding others
  first_turn r read = ap (λ (l : List Record). level src d 0 p.first.0 p.from.0 hi (take p.left.0 l)) (first_split r read) ∙ turn src d p.first.0 p.from.0 hi p.left.0 r (later r) some (rest r read)

  pub bad_one : {n : Result (Unit {0}) Fault} {r : Record} {e : Fault} → r ≡ head_of list p → n ≡ next_of src p r hi → n ≡ Err e → Walk src list all hi d (Err e)
  unfolding next_of
  bad_one {n} {r} {e} read q f = refused e (go (leb 8192 p.first.0) (keeps src p.from.0 hi (p.left.0 - 1) r) _ (sym f ∙ q) (first_turn r read) ∙ v.says)
    where
      go : (t u : Bool) (g : Finding) → ◌≡◌ {A = Result (Unit {0}) Fault} (Err e) (cond t (Err (Bad (record { 0 = 8192 }))) (cond u (Ok tt) (Err (Bad p.first)))) → level_of src list hi d p ≡ cond t (bad 8192) (cond u g (bad p.first.0)) → finding_of (Err e) ≡ level_of src list hi d p
      go true u g q s = sym (s ∙ ap (λ (k : Fault). finding_of (Err k)) {x = Bad (record { 0 = 8192 })} {y = e} (cc))
      go false true g q s = let z : ◌≡◌ {A = ℕ} 0 1 = cc in absurd (omega arith)
      go false false g q s = sym (s ∙ ap (λ (k : Fault). finding_of (Err k)) {x = Bad p.first} {y = e} (cc))

module _ {src list : List ℕ} {all : Part} {hi d : ℕ} {p : Part} {r : Record} (m : Meets src list all hi d p r) where
  rules : Kept src p.from.0 hi (p.left.0 - 1) r
  rules = kept_of m.kept

  behind_it : List Record
  behind_it = later m.going m.some r

  enough : p.left.0 - 1 ≤ length behind_it
  unfolding behind_it
  enough = rest m.going m.some r m.read

  kept_turn : level_of src list hi d p ≡ (under src d p.first.0 r (take (p.left.0 - 1) behind_it) then others m.going m.some r)
  unfolding behind_it
  kept_turn = rw (lt-leb 8192 p.first.0 m.few, m.kept) at (first_turn m.going m.some r m.read)

  pub too_deep : d ≡ 0 → Walk src list all hi d (Err (Deep p.first))
  too_deep z = refused (Deep p.first) (sym (rw (under_zero src d p.first.0 r (take (p.left.0 - 1) behind_it) z) at kept_turn) ∙ m.going.says)

  pub inside_holds : {q : Part} → q ≡ inside_of p r → Holds list q
  unfolding behind_it later
  inside_holds e = rw e (record {
    within = fits list p.at (body_of r.kind) r (here m.going m.some) m.read refl rules.whole;
    enough = omega (arith, rules.fewer, enough);
    small = omega (arith, m.few);
  })

  -- where nothing lies below it, there is nothing to go into
  pub none_below : {q : Part} → q ≡ inside_of p r → q.left.0 ≡ 0 → Walk src list q (end_of r) (d - 1) (Ok q.at)
  none_below e z = done (begin (inside_holds e)) (omega arith)

  pub inside_asks : length list < 2 ^ 64 → (p.at + 1 + body_of r.kind < 2 ^ 64) × (p.first.0 < 8192)
  inside_asks h = (omega (arith, (inside_holds refl).within), m.few)

  -- the recursive call's answer on what lies below it
  module _ (deeper : d ≡ 0 → ⊥) {q : Part} (inner : q ≡ inside_of p r) {w : Result ℕ Fault} (walk : Walk src list q (end_of r) (d - 1) w) where
    below : finding_of w ≡ level src (d - 1) 0 (p.first.0 + 1) (start_of r) (end_of r) (take r.below behind_it)
    unfolding behind_it later
    below = walk.says ∙ ap (level_of src list (end_of r) (d - 1)) inner

    turned : level_of src list hi d p ≡ (finding_of w then others m.going m.some r)
    turned = kept_turn ∙ ap (λ (x : Finding). x then others m.going m.some r) (under_is src d p.first.0 (p.left.0 - 1) r behind_it deeper rules.fewer ∙ sym below)

    pub refused_below : {f : Fault} → w ≡ Err f → Walk src list all hi d (Err f)
    refused_below {f} e = refused f (sym (turned ∙ ap (λ (x : Result ℕ Fault). finding_of x then others m.going m.some r) e ∙ stops f _) ∙ m.going.says)

    pub behind_asks : {e : ℕ} → w ≡ Ok e → (1 + r.below ≤ p.left.0) × (p.first.0 + 1 + r.below ≤ 8192)
    behind_asks f =
        let few = level_few src (d - 1) 0 (p.first.0 + 1) (start_of r) (end_of r) (take r.below behind_it) (sym below ∙ ap finding_of f) zero-le (omega (arith, m.few)) in
        let size = length-take-le r.below behind_it (omega (arith, rules.fewer, enough)) in
        (omega (arith, rules.fewer, m.some), omega (arith, few, size))

    pub less : {e : ℕ} {t : Part} → w ≡ Ok e → t ≡ behind_of p r e → t.left.0 < p.left.0
    less f g = omega (arith, behind_asks f, ap (λ (x : Part). x.left.0) g)

    pub goes_on : {e : ℕ} {t : Part} → w ≡ Ok e → t ≡ behind_of p r e → Going src list all hi d t
    unfolding behind_it later others
    goes_on {e} f g = rw g (record {
      holds = record { within = end.0; enough = rw (after, length-drop) (omega (arith, rules.fewer, enough)); small = (behind_asks f).1 };
      says = rw after (sym (rw f at turned) ∙ m.going.says);
      ends = rw (after, drop-drop) (lastly ∙ m.going.ends);
    })
      where
        end : (e ≤ length list) × (records (drop e list) ≡ drop q.left.0 (records (drop q.at list)))
        end = walk.ends e f

        after : records (drop e list) ≡ drop r.below behind_it
        after = end.1 ∙ ap (λ (x : Part). drop x.left.0 (records (drop x.at list))) inner

        lastly : drop (r.below + (p.left.0 - 1 - r.below)) behind_it ≡ drop p.left.0 (records (drop p.at list))
        lastly =
            let s : r.below + (p.left.0 - 1 - r.below) ≡ p.left.0 - 1 = omega (arith, rules.fewer) in
            let z : p.left.0 ≡ suc (p.left.0 - 1) = omega (arith, m.some) in
            rw (first_split m.going m.some r m.read, s) (sym (ap (λ (k : ℕ). drop k (r ∷ behind_it)) z))

-- ---- the whole list

-- no record ends behind the last place that a word can say
end_word : (b : ℕ) (bs : List ℕ) → ((i : ℕ) → get_or bs i 0 < 256) → end_of (record_of b bs) ≤ 4294967295
unfolding record_of four
end_word b bs h = go (ltb (length bs) (body_of b))
  where
    go : (t : Bool) → end_of (cond t (cut_record b) (whole_of b (four bs) (four (drop 4 bs)) (cond (ltb b 0x80) 0 (four (drop 8 bs))))) ≤ 4294967295
    go true = omega arith
    go false = simp get_or-drop (omega (arith, h 4, h 5, h 6, h 7))

-- so an end of the source cut there lets the same ends through
leb_cut : (e n : ℕ) → e ≤ 4294967295 → leb e (min 4294967295 n) ≡ leb e n
leb_cut e n h = ⊎_elim over within (le_or_lt 4294967295 n)
  where
    over : 4294967295 ≤ n → leb e (min 4294967295 n) ≡ leb e n
    over g = rw (min-eq_left g, le-leb e 4294967295 h, le-leb e n (omega arith))

    within : n < 4294967295 → leb e (min 4294967295 n) ≡ leb e n
    within g = rw (min-eq_right (le_of_lt g))

along_cut : (src : List ℕ) (under : ℕ → Record → List Record → Finding) (j k i lo n : ℕ) (s : List ℕ) → ((i : ℕ) → get_or s i 0 < 256) → along src under k i lo (min 4294967295 n) (records_from j s) ≡ along src under k i lo n (records_from j s)
unfolding records_from along keeps
along_cut src under j k i lo n [] h = refl
along_cut src under (suc j) k i lo n (b ∷ bs) h = along_cut src under j k i lo n bs (λ x. h (suc x))
along_cut src under zero (suc k) i lo n (b ∷ bs) h = along_cut src under (body_of b) k (suc i) lo n bs (λ x. h (suc x))
along_cut src under zero zero i lo n (b ∷ bs) h = rw (
  leb_cut (end_of (record_of b bs)) n (end_word b bs (λ x. h (suc x))),
  along_cut src under (body_of b) (record_of b bs).below (suc i) (end_of (record_of b bs)) n bs (λ x. h (suc x)),
)

fault_as : (f : Fault) (n : ℕ) → verdict_as (finding_of (Err f)) n ≡ Err f
fault_as (Bad i) n = refl
fault_as (Deep i) n = refl

abbrev pub whole_part : ℕ → Part
whole_part n = record { at = 0; first = record { 0 = 0 }; left = record { 0 = n }; from = record { 0 = 0 } }

pub whole_holds : {list : List ℕ} {n : ℕ} → n ≡ length (records list) → Holds list (whole_part n)
whole_holds e = record { within = omega arith; enough = omega arith; small = omega arith }

module _ {src list : List ℕ} {n : ℕ} {w : Result ℕ Fault} (all : n ≡ length (records list)) (bytes : (i : ℕ) → get_or list i 0 < 256) {hi : ℕ} (end : hi ≡ min 4294967295 (length src)) (walk : Walk src list (whole_part n) hi 64 w) where
  whole_level : finding_of w ≡ level src 64 0 0 0 (length src) (records list)
  unfolding level
  whole_level =
      walk.says
      ∙ ap₂ (level src 64 0 0 0) end (ap (λ (k : ℕ). take k (records list)) all ∙ take-length (records list))
      ∙ along_cut src _ 0 0 0 0 (length src) list bytes

  pub counts : {e : ℕ} → w ≡ Ok e → Ok (record { 0 = n }) ≡ checked src list
  unfolding checked
  counts e = ap₂ verdict_as (ap finding_of (sym e) ∙ whole_level) all

  pub refuses : {f : Fault} → w ≡ Err f → Err f ≡ checked src list
  unfolding checked
  refuses {f} e = sym (fault_as f n) ∙ ap₂ verdict_as (ap finding_of (sym e) ∙ whole_level) all

  pub not_many : {e : ℕ} → w ≡ Ok e → n ≤ 8192
  not_many g = omega (arith, level_few src 64 0 0 0 (length src) (records list) (sym whole_level ∙ ap finding_of g) zero-le (omega arith))
