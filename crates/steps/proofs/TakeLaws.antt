-- What steps leave of the records: no more than there were, and less where a turn takes the record that is wanted. Assumes nothing.
use Rattle.std.specs.Prelude.{Option, Some, None}
use Rattle.text.proofs.Base.{◌≡◌, refl, Bool, true, false, cond, List, [], ◌∷◌, ℕ, suc, ◌<◌, ◌≤◌, arith, length}
use Rattle.tree.specs.{declared.record.Record.Record, declared.record.RecordNo.RecordNo}
use Rattle.meaning.specs.Plan.{Plan}
use Rattle.steps.specs.{declared.remaining.Mark.Mark}
use Rattle.walk.specs.{Stream.Stream, Stream.is_byte, Stream.next_in, Stream.next_is, Stream.take_in, Stream.take_if}
use Rattle.steps.specs.{Remaining.is_mark}
use Rattle.walk.specs.{Flow.Flow, Flow.◌▸◌, Flow.plain, Flow.pump, Flow.expect_byte, Flow.if_next}
use Rattle.steps.specs.{Remaining.rest_if, Remaining.remaining, Remaining.put_remaining}
use Rattle.walk.proofs.LoopLaws.{Falls}

-- the step takes a record where one is wanted
pub record Takes (want : ℕ → Bool) (f : Stream → Flow Stream) : Type 0 where
  pub less : (s : Stream) → next_is want s ≡ true → length (f s).rest.left < length s.left

-- the step takes what it takes, and adds none
pub record Leaves (f : Stream → Flow Stream) : Type 0 where
  pub most : (s : Stream) → length (f s).rest.left ≤ length s.left

-- ---- taking one

take_le : (want : ℕ → Bool) (n : RecordNo) (ks : List ℕ) → length (take_in want n ks).rest.left ≤ length ks
take_le want n [] = omega arith
take_le want n (k ∷ ks) = go (want k)
  where
    go : (t : Bool) → length (cond t (take_in (λ k. true) n (k ∷ ks)) (take_in (λ k. false) n (k ∷ ks))).rest.left ≤ suc (length ks)
    go true = omega arith
    go false = omega arith

pub pump_takes : (want : ℕ → Bool) (rule : RecordNo → Plan) → Takes want (pump rule)
unfolding pump take_if
pump_takes want rule = record { less = λ s h. go s.node s.left h }
  where
    go : (n : RecordNo) (ks : List ℕ) → next_in want ks ≡ true → length (take_in (λ k. true) n ks).rest.left < length ks
    go n [] h = let z : ◌≡◌ {A = ℕ} 0 1 = cc in absurd (omega arith)
    go n (k ∷ ks) h = omega arith

pub pump_leaves : (rule : RecordNo → Plan) → Leaves (pump rule)
unfolding pump take_if
pump_leaves rule = record { most = λ s. take_le (λ k. true) s.node s.left }

pub expect_takes : (rs : List Record) (b : ℕ) (rule : RecordNo → Plan) → Takes (is_byte rs b) (expect_byte rs b rule)
unfolding expect_byte take_if
expect_takes rs b rule = record { less = λ s h. go s.node s.left h }
  where
    go : (n : RecordNo) (ks : List ℕ) → next_in (is_byte rs b) ks ≡ true → length (take_in (is_byte rs b) n ks).rest.left < length ks
    go n [] h = let z : ◌≡◌ {A = ℕ} 0 1 = cc in absurd (omega arith)
    go n (k ∷ ks) h = rw h (omega arith)

pub expect_leaves : (rs : List Record) (b : ℕ) (rule : RecordNo → Plan) → Leaves (expect_byte rs b rule)
unfolding expect_byte take_if
expect_leaves rs b rule = record { most = λ s. take_le (is_byte rs b) s.node s.left }

pub rest_leaves : (rs : List Record) (m : Mark) (s : Stream) → length (remaining rs m s).rest.left ≤ length s.left
unfolding remaining rest_if take_if
rest_leaves rs m s = omega (arith, kept (take_if (is_mark rs m) s).found (take_if (is_mark rs m) s).rest, take_le (is_mark rs m) s.node s.left)
  where
    kept : (f : Option RecordNo) (s : Stream) → length (rest_if rs m f s).rest.left ≡ length s.left
    kept (Some k) s = refl
    kept None s = refl

pub put_leaves : (rs : List Record) (m : Mark) → Leaves (put_remaining rs m)
unfolding put_remaining
put_leaves rs m = record { most = rest_leaves rs m }

pub plain_leaves : (p : Plan) → Leaves (plain p)
unfolding plain
plain_leaves p = record { most = λ s. omega arith }

-- ---- steps one after the other

infixr 50 ◌takes_then◌
pub ◌takes_then◌ : {want : ℕ → Bool} {f g : Stream → Flow Stream} → Takes want f → Leaves g → Takes want (f ▸ g)
unfolding ◌▸◌
◌takes_then◌ {f = f} t l = record { less = λ s h. omega (arith, t.less s h, l.most (f s).rest) }

infixr 50 ◌leaves_then◌
pub ◌leaves_then◌ : {f g : Stream → Flow Stream} → Leaves f → Leaves g → Leaves (f ▸ g)
unfolding ◌▸◌
◌leaves_then◌ {f = f} k l = record { most = λ s. omega (arith, k.most s, l.most (f s).rest) }

-- a plan takes no record, so that the next is the one that is wanted still
pub plain_takes : {want : ℕ → Bool} (p : Plan) {f : Stream → Flow Stream} → Takes want f → Takes want (plain p ▸ f)
unfolding plain ◌▸◌
plain_takes p t = record { less = λ s h. t.less s h }

pub next_leaves : (want : ℕ → Bool) {f g : Stream → Flow Stream} → Leaves f → Leaves g → Leaves (if_next want f g)
unfolding if_next
next_leaves want {f} {g} k l = record { most = λ s. go s (next_is want s) }
  where
    go : (s : Stream) (t : Bool) → length (cond t (f s) (g s)).rest.left ≤ length s.left
    go s true = k.most s
    go s false = l.most s

-- ---- a loop over the stream alone

pub taking_falls : {want : ℕ → Bool} {f : Stream → Flow Stream} → Takes want f → Falls (λ (s : Stream). s) want f
taking_falls t = record { less = t.less }

pub pump_falls : (want : ℕ → Bool) (rule : RecordNo → Plan) → Falls (λ (s : Stream). s) want (pump rule)
pump_falls want rule = taking_falls (pump_takes want rule)

pub pump_then_falls : (want : ℕ → Bool) (rule : RecordNo → Plan) (p : Plan) → Falls (λ (s : Stream). s) want (pump rule ▸ plain p)
pump_then_falls want rule p = taking_falls (pump_takes want rule takes_then plain_leaves p)
