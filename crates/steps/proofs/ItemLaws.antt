-- Laws of lists: the steps of a turn, that a turn takes a record, and lists under way. Assumes nothing.
use Rattle.text.proofs.Base.{◌≡◌, refl, ap, Bool, true, false, List, ℕ, ◌<◌, arith, length}
use Rattle.tree.specs.{declared.record.Record.Record, declared.record.RecordNo.RecordNo}
use Rattle.meaning.specs.{declared.call.Hint.TheVariants.Prefix, declared.call.Hint.TheVariants.Infix, declared.call.Call.TheVariants.Comments}
use Rattle.meaning.specs.{declared.call.Call.TheVariants.Ws, State.Script, Plan.Plan, Plan.make, Plan.◌then◌}
use Rattle.lent.specs.Loans.{Engine, Makes}
use Rattle.lent.proofs.MadeLaws as made
use Rattle.steps.specs.declared.remaining.Mark.TheVariants.{Comma}
use Rattle.steps.specs.declared.remaining.Remaining.TheVariants as held
use Rattle.walk.specs.Stream.{Stream, next_is}
use Rattle.walk.specs.Flow.{Flow, ◌▸◌, pump, Goes}
use Rattle.steps.specs.Remaining.{Remaining, Fresh, fmt, ignore, says, remaining, remaining_of, RestsWith}
use Rattle.steps.specs.declared.items.Few.{Few}
use Rattle.steps.specs.declared.items.Few.TheVariants.{Zero}
use Rattle.steps.specs.Items.{Place, place, more, item, rested, behind, turn, begin, items, separated, listed, suffix, closing}
use Rattle.steps.specs.Items.{closed, list}
use Rattle.walk.proofs.{FlowLaws.◌▹◌, FlowLaws.steady, LoopLaws.Falls, LoopLaws.Going, LoopLaws.starts, LoopLaws.goes_on, LoopLaws.done}
use Rattle.steps.proofs.{TakeLaws.Takes, TakeLaws.pump_takes, TakeLaws.plain_takes, TakeLaws.rest_leaves}
use Rattle.walk.proofs.{LoopLaws.falls}

-- ---- the comma of the item before, and of the last

module _ {x : Script} {e e' : Engine} (comma : Remaining) {t : Bool} (q : t ≡ says comma) where
  pub separated_yes : {e'' : Engine} → Makes x (fmt comma) e e' → t ≡ true → Makes x (make Ws) e' e'' → Makes x (separated comma) e e''
  unfolding separated
  separated_yes a h b = rw (← q, h) (made.◌▹◌ a b)

  pub separated_no : Makes x (fmt comma) e e' → t ≡ false → Makes x (separated comma) e e'
  unfolding separated
  separated_no a h = rw (← q, h) (made.◌▹◌ a made.nothing_made)

  pub closing_yes : Makes x (ignore comma) e e' → t ≡ true → Makes x (closing comma) e e'
  unfolding closing
  closing_yes a h = rw (← q, h) (made.◌▹◌ a made.nothing_made)

  pub closing_no : {e'' : Engine} → Makes x (ignore comma) e e' → t ≡ false → Makes x (make (Comments Infix)) e' e'' → Makes x (closing comma) e e''
  unfolding closing
  closing_no a h b = rw (← q, h) (made.◌▹◌ a b)

-- ---- a turn takes a record

pub turn_falls : (rs : List Record) {want : ℕ → Bool} {f : Remaining → Stream → Flow Stream} (g : Remaining → Plan) → ((c : Remaining) → Takes want (f c)) → Falls (λ (s : Place). s.rest) want (turn rs f g)
unfolding turn item rested behind ◌▸◌
turn_falls rs {want} {f} g t = record { less = λ s h. omega (arith, rest_leaves rs Comma (f s.comma s.rest).rest, (t s.comma).less s.rest h) }

-- the items of a list take a record each
pub list_falls : (rs : List Record) (want : ℕ → Bool) (rule : RecordNo → Plan) → Falls (λ (s : Place). s.rest) want (turn rs (listed rule) suffix)
unfolding listed
list_falls rs want rule = turn_falls rs suffix (λ c. plain_takes (make (Comments Prefix) then separated c) (pump_takes want rule))

-- ---- one turn: the item, and the comma behind it

pub one_turn : {x : Script} (rs : List Record) (f : Remaining → Stream → Flow Stream) (g : Remaining → Plan) {s s' s'' : Stream} {e e' e'' : Engine} {c r : Remaining} (n : Few)
    → Goes x (f c) s e e' s' → RestsWith x rs Comma g s' e' e'' r s'' → Goes x (turn rs f g) (place s c n) e e'' (place s'' r (more n))
unfolding turn item rested behind ◌▸◌
one_turn rs f g n a b =
    record {
      ran = made.◌▹◌ a.ran (made.made_as (ap (λ (z : Stream). (remaining rs Comma z).plan then g (remaining rs Comma z).token) a.at) b.ran);
      at = rw (← a.at, b.token, b.rest) refl;
    }

-- the items so far, all of them
pub items_done : {x : Script} (rs : List Record) {want : ℕ → Bool} (f : Remaining → Stream → Flow Stream) (g : Remaining → Plan) {s₀ s : Stream} {e₀ e : Engine} {c : Remaining} {n : Few} {t : Bool} → t ≡ next_is want s → t ≡ false
    → Going x (λ (s : Place). s.rest) want (turn rs f g) (place s₀ Fresh Zero) e₀ (place s c n) e → Goes x (items rs want f g) s₀ e₀ e (place s c n)
unfolding items begin
items_done rs f g q h w = record { ran = made.nothing_made; at = refl } ▹ done q h w

-- ---- a list under way

abbrev pub Counting : Script → (ℕ → Bool) → (Place → Flow Place) → Stream → Engine → Stream → Engine → Remaining → Few → Type 0
Counting x want turn s₀ e₀ s e comma n = Going x (λ (s : Place). s.rest) want turn (place s₀ Fresh Zero) e₀ (place s comma n) e

-- most rules do not ask how many items there were
pub record Listing (x : Script) (want : ℕ → Bool) (turn : Place → Flow Place) (s₀ : Stream) (e₀ : Engine) (s : Stream) (e : Engine) (comma : Remaining) : Type 0 where
  pub count : Few
  pub going : Counting x want turn s₀ e₀ s e comma count

pub none_counted : {x : Script} {want : ℕ → Bool} {turn : Place → Flow Place} {s : Stream} {e : Engine} → Counting x want turn s e s e (remaining_of Comma held.Fresh) Zero
unfolding remaining_of
none_counted = starts

pub no_item_lem : {x : Script} {want : ℕ → Bool} {turn : Place → Flow Place} {s : Stream} {e : Engine} → Listing x want turn s e s e (remaining_of Comma held.Fresh)
no_item_lem = record { count = Zero; going = none_counted }

module _ {x : Script} (rs : List Record) (want : ℕ → Bool) (f : Remaining → Stream → Flow Stream) (g : Remaining → Plan) (fall : Falls (λ (s : Place). s.rest) want (turn rs f g)) {s s' s'' : Stream} {e e' e'' : Engine} {c r : Remaining} {t : Bool}
    (q : t ≡ next_is want s) (h : t ≡ true) (a : Goes x (f c) s e e' s') (b : RestsWith x rs Comma g s' e' e'' r s'') where
  pub next_turn : {s₀ : Stream} {e₀ : Engine} → Listing x want (turn rs f g) s₀ e₀ s e c → Listing x want (turn rs f g) s₀ e₀ s'' e'' r
  next_turn l = record { count = more l.count; going = goes_on fall q h (one_turn rs f g l.count a b) l.going }

  pub turn_less : length s''.left < length s.left
  turn_less = falls fall q h (one_turn rs f g Zero a b)

-- ---- the list that most rules have

one_item : {x : Script} (c : Remaining) (rule : RecordNo → Plan) {s s' : Stream} {e e' e'' : Engine} → Makes x (make (Comments Prefix) then separated c) e e' → Goes x (pump rule) s e' e'' s' → Goes x (listed rule c) s e e'' s'
unfolding listed
one_item c rule p a = steady p ▹ a

module _ {x : Script} (rs : List Record) (want : ℕ → Bool) (rule : RecordNo → Plan) {s s' s'' : Stream} {e e' e'' e''' : Engine} {c r : Remaining} {t : Bool}
    (q : t ≡ next_is want s) (h : t ≡ true) (p : Makes x (make (Comments Prefix) then separated c) e e') (a : Goes x (pump rule) s e' e'' s') (b : RestsWith x rs Comma suffix s' e'' e''' r s'') where
  pub next_item : {s₀ : Stream} {e₀ : Engine} → Listing x want (turn rs (listed rule) suffix) s₀ e₀ s e c → Listing x want (turn rs (listed rule) suffix) s₀ e₀ s'' e''' r
  next_item l = next_turn rs want (listed rule) suffix (list_falls rs want rule) q h (one_item c rule p a) b l

  pub item_less : {s₀ : Stream} {e₀ : Engine} → Listing x want (turn rs (listed rule) suffix) s₀ e₀ s e c → length s''.left < length s.left
  item_less l = turn_less rs want (listed rule) suffix (list_falls rs want rule) q h (one_item c rule p a) b

  pub next_counted : {s₀ : Stream} {e₀ : Engine} {n m : Few} → m ≡ more n → Counting x want (turn rs (listed rule) suffix) s₀ e₀ s e c n → Counting x want (turn rs (listed rule) suffix) s₀ e₀ s'' e''' r m
  next_counted {n = n} z g = rw z (goes_on (list_falls rs want rule) q h (one_turn rs (listed rule) suffix n (one_item c rule p a) b) g)

pub counted : {x : Script} {want : ℕ → Bool} {turn : Place → Flow Place} {s₀ s : Stream} {e₀ e : Engine} {c : Remaining} {n : Few} → Counting x want turn s₀ e₀ s e c n → Listing x want turn s₀ e₀ s e c
counted {n = n} g = record { count = n; going = g }

pub listed_all : {x : Script} (rs : List Record) {want : ℕ → Bool} (rule : RecordNo → Plan) {s₀ s : Stream} {e₀ e e' : Engine} {c : Remaining} {t : Bool} → t ≡ next_is want s → t ≡ false → Listing x want (turn rs (listed rule) suffix) s₀ e₀ s e c → Makes x (closing c) e e' → Goes x (list rs want rule) s₀ e₀ e' s
unfolding list closed
listed_all rs rule q h l a = items_done rs (listed rule) suffix q h l.going ▹ record { ran = a; at = refl }
