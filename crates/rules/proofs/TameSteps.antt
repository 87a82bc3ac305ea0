-- The steps of the rules refuse by record numbers only, in the order of their definitions. Assumes nothing.
use Rattle.std.specs.Prelude.{Option, Some, None}
use Rattle.steps.proofs.Rules.{ℕ, zero, suc, Bool, true, false, cond, ◌||◌, List, [], ◌∷◌, length, Record, RecordNo, TreeDeep, WrongKind, Plan}
use Rattle.steps.proofs.Rules.{nothing, make, refuse, ◌then◌, Stream, records_of, is_byte, next_is, take_if, take_any, Flow, flow, ◌▸◌, plain, write}
use Rattle.steps.proofs.Rules.{spaced, pump, expect_byte, if_next, parse, Remaining, fmt, ignore, says, put_remaining, Place, turn, listed, suffix, list}
use Rattle.meaning.specs.{declared.call.Call.Call, declared.answer.Refusal.TheVariants.NoRule, declared.answer.Refusal.TheVariants.NoNode}
use Rattle.steps.specs.{declared.remaining.Mark.TheVariants.Comma, declared.remaining.Mark.Mark}
use Rattle.walk.specs.{Flow.on_found, Flow.eat_byte, Flow.left_in, Loop.turns}
use Rattle.steps.specs.{Seen.Seen, Seen.none_yet, Seen.another, Seen.each, Seen.lastly, Remaining.Fresh, Remaining.Missing}
use Rattle.walk.specs.{Loop.loop}
use Rattle.steps.specs.{Remaining.Present, Remaining.is_mark, Remaining.second, Remaining.rest_if, Remaining.remaining, Remaining.is_present, Remaining.write_if, Remaining.write_only_if, Items.item, Items.rested}
use Rattle.steps.specs.{Items.behind, Items.begin, Items.items, Items.separated, Items.closing, Items.closed}
use Rattle.rules.proofs.Tame.{Tame}

-- ---- plans: `Tame` under a name, from which the plan can be read

pub record IsTame (p : Plan) : Type 0 where
  pub tame : Tame p

-- a rule, at every record, or at whatever else it is asked
abbrev pub Each : {A : Type 0} → (A → Plan) → Type 0
Each {A} f = (a : A) → IsTame (f a)

-- nothing, a call, refusals at a record
pub idle : IsTame nothing
idle = record { tame = tt }

pub made : {c : Call} → IsTame (make c)
made = record { tame = tt }

pub wrong : {k : RecordNo} → IsTame (refuse (WrongKind k))
wrong = record { tame = tt }

pub deep : {k : RecordNo} → IsTame (refuse (TreeDeep k))
deep = record { tame = tt }

pub no_rule : {k : RecordNo} → IsTame (refuse (NoRule k))
no_rule = record { tame = tt }

pub no_node : {k : RecordNo} → IsTame (refuse (NoNode k))
no_node = record { tame = tt }

pub wrote : Each write
wrote k = made

infixr 50 ◌and◌
pub ◌and◌ : {p q : Plan} → IsTame p → IsTame q → IsTame (p then q)
a and b = record { tame = (a.tame, b.tame) }

pub spaced_tame : Each spaced
spaced_tame k = made and made

pub cond_tame : (t : Bool) {p q : Plan} → IsTame p → IsTame q → IsTame (cond t p q)
cond_tame true a b = a
cond_tame false a b = b

-- ---- steps

pub record Tamed {S T : Type 0} (f : S → Flow T) : Type 0 where
  pub at : (s : S) → IsTame (f s).plan

infixr 50 ◌▹◌
pub ◌▹◌ : {S T U : Type 0} {f : S → Flow T} {g : T → Flow U} → Tamed f → Tamed g → Tamed (f ▸ g)
unfolding ◌▸◌
◌▹◌ {f = f} a b = record { at = λ s. a.at s and b.at (f s).rest }

pub plain_tame : {S : Type 0} {p : Plan} → IsTame p → Tamed {S = S} {T = S} (plain p)
unfolding plain
plain_tame a = record { at = λ s. a }

pub called : {S : Type 0} (c : Call) → Tamed {S = S} {T = S} (plain (make c))
called c = plain_tame made

pub still : {S : Type 0} → Tamed {S = S} {T = S} (flow nothing)
still = record { at = λ s. idle }

either : {S T : Type 0} (t : S → Bool) {f g : S → Flow T} → Tamed f → Tamed g → Tamed (λ (s : S). cond (t s) (f s) (g s))
either {S = S} t {f} {g} a b = record { at = λ s. go s (t s) }
  where
    go : (s : S) (t : Bool) → IsTame (cond t (f s) (g s)).plan
    go s true = a.at s
    go s false = b.at s

pub next_tame : {T : Type 0} (want : ℕ → Bool) {f g : Stream → Flow T} → Tamed f → Tamed g → Tamed (if_next want f g)
unfolding if_next
next_tame want a b = either (next_is want) a b

pub cond_tamed : {S T : Type 0} (t : Bool) {f g : S → Flow T} → Tamed f → Tamed g → Tamed (cond t f g)
cond_tamed true a b = a
cond_tamed false a b = b

-- ---- taking the next record

pub found_tame : (o : Option RecordNo) {f : RecordNo → Plan} {p : Plan} → Each f → IsTame p → IsTame (on_found o f p)
unfolding on_found
found_tame (Some k) a b = a k
found_tame None a b = b

module _ {f : RecordNo → Plan} (a : Each f) where
  pub pumped : Tamed (pump f)
  unfolding pump
  pumped = record { at = λ s. found_tame (take_any s).found a wrong }

  pub expected : (rs : List Record) (kind : ℕ) → Tamed (expect_byte rs kind f)
  unfolding expect_byte
  expected rs kind = record { at = λ s. found_tame (take_if (is_byte rs kind) s).found a wrong }

  pub eaten : (rs : List Record) (kind : ℕ) → Tamed (eat_byte rs kind f)
  unfolding eat_byte
  eaten rs kind = record { at = λ s. found_tame (take_if (is_byte rs kind) s).found a idle }

left_tame : (ks : List ℕ) → IsTame (left_in ks)
left_tame [] = idle
left_tame (k ∷ ks) = wrong

pub parsed : (rs : List Record) {rule : Stream → Flow Stream} → Tamed rule → Each (parse rs rule)
unfolding parse
parsed rs {rule} a k = let s = records_of rs k in a.at s and left_tame (rule s).rest.left

-- ---- loops

module _ {S : Type 0} (at : S → Stream) (want : ℕ → Bool) {turn : S → Flow S} (a : Tamed turn) where
  turns_tame : (n : ℕ) → Tamed (turns at want turn n)
  unfolding turns
  turns_tame zero = still
  turns_tame (suc n) = either (λ s. next_is want (at s)) (a ▹ turns_tame n) still

  pub looped : Tamed (loop at want turn)
  unfolding loop
  looped = record { at = λ s. (turns_tame (length (at s).left)).at s }

-- ---- loops that ask whether there was an item

pub each_tame : (want : ℕ → Bool) {f : Bool → Stream → Flow Stream} → ((any : Bool) → Tamed (f any)) → Tamed (each want f)
unfolding each none_yet another
each_tame want a = record { at = λ s. idle } ▹ looped (λ (s : Seen). s.rest) want (record { at = λ s. (a s.any).at s.rest })

pub lastly_tame : {g : Bool → Plan} → Each g → Tamed (lastly g)
unfolding lastly
lastly_tame a = record { at = λ s. a s.any }

-- ---- a token that may be missing

pub fmt_tame : Each fmt
unfolding fmt
fmt_tame Fresh = idle
fmt_tame (Missing m) = made
fmt_tame (Present k) = made

pub ignore_tame : Each ignore
unfolding ignore
ignore_tame Fresh = idle
ignore_tame (Missing m) = idle
ignore_tame (Present k) = made

rest_tame : (rs : List Record) (m : Mark) (o : Option RecordNo) (s : Stream) → IsTame (rest_if rs m o s).plan
unfolding rest_if second
rest_tame rs m (Some k) s = cond_tame (next_is (is_mark rs m) s) wrong idle
rest_tame rs m None s = idle

pub remaining_tame : (rs : List Record) (m : Mark) (s : Stream) → IsTame (remaining rs m s).plan
unfolding remaining
remaining_tame rs m s = let t = take_if (is_mark rs m) s in rest_tame rs m t.found t.rest

pub put_tame : (rs : List Record) (m : Mark) → Tamed (put_remaining rs m)
unfolding put_remaining
put_tame rs m = record { at = λ s. remaining_tame rs m s and fmt_tame (remaining rs m s).token }

-- ---- lists

pub begin_tame : Tamed begin
unfolding begin
begin_tame = record { at = λ s. idle }

rested_tame : (rs : List Record) → Tamed (rested rs)
unfolding rested
rested_tame rs = record { at = λ s. remaining_tame rs Comma s.rest }

module _ (rs : List Record) {f : Remaining → Stream → Flow Stream} {g : Remaining → Plan} (a : (c : Remaining) → Tamed (f c)) (b : Each g) where
  turn_tame : Tamed (turn rs f g)
  unfolding turn item behind
  turn_tame = record { at = λ s. (a s.comma).at s.rest } ▹ rested_tame rs ▹ record { at = λ s. b s.comma }

  pub items_tame : (want : ℕ → Bool) → Tamed (items rs want f g)
  unfolding items
  items_tame want = begin_tame ▹ looped (λ (s : Place). s.rest) want turn_tame

separated_tame : Each separated
unfolding separated
separated_tame c = fmt_tame c and cond_tame (says c) made idle

pub suffix_tame : Each suffix
suffix_tame c = made

closed_tame : Tamed closed
unfolding closed closing
closed_tame = record { at = λ s. ignore_tame s.comma and cond_tame (says s.comma) idle made }

module _ {rule : RecordNo → Plan} (a : Each rule) where
  pub listed_tame : (c : Remaining) → Tamed (listed rule c)
  unfolding listed
  listed_tame c = plain_tame (made and separated_tame c) ▹ pumped a

  pub list_tame : (rs : List Record) (want : ℕ → Bool) → Tamed (list rs want rule)
  unfolding list
  list_tame rs want = items_tame rs listed_tame suffix_tame want ▹ closed_tame

-- ---- two tokens that are written only where they are wanted

pub write_if_lem : (needed : Bool) → Each (write_if needed)
unfolding write_if
write_if_lem needed r = cond_tame (needed || is_present r) (fmt_tame r) idle

pub write_only : (wanted : Bool) → Each (write_only_if wanted)
unfolding write_only_if
write_only wanted r = cond_tame wanted (fmt_tame r) (ignore_tame r)

-- what the rules are made of
pub ruleset tame = (idle, made, wrong, deep, no_rule, no_node, ◌and◌, cond_tame, ◌▹◌, plain_tame, cond_tamed, next_tame, pumped, expected, eaten, parsed, looped, each_tame, lastly_tame, fmt_tame, ignore_tame, put_tame, items_tame, listed_tame, list_tame)
