-- The checks on what is lent, and that they come before the steps. Assumes nothing.
use Rattle.std.specs.Prelude.{Ok, Err}
use Rattle.text.proofs.Base.{◌≡◌, refl, sym, ap, ◌∙◌, Bool, true, false, ◌||◌, List, ◌∷◌, ℕ, ◌<◌, ◌≤◌, arith, length, ltb, lt-ltb}
use Rattle.text.proofs.Base.{le-ltb}
use mathlib.Core.Option.{Option, none, some}
use Rattle.text.specs.Chars.{in_source}
use Rattle.meaning.specs.{declared.call.Call.Call, declared.answer.Refusal.TheVariants.NoRoom}
use Rattle.meaning.specs.{declared.answer.Refusal.TheVariants.QueueFull, declared.answer.Refusal.TheVariants.IndentOut}
use Rattle.meaning.specs.{declared.answer.Refusal.TheVariants.BadCall, Answer.Answer}
use Rattle.meaning.specs.{State.Script, State.Comment, Outcome.Outcome}
use Rattle.meaning.specs.{Outcome.refused, Outcome.refuse_if, Calls.step, CallRecord.decode, CallRecord.asked, Lent.any_outside, Lent.lent_state}
use Rattle.meaning.specs.{Lent.lent, Lent.serve, Lent.serve_record, World.World, World.world, World.capacity, World.Result, World.result, World.made}
use Rattle.meaning.specs.{World.call, World.call_record, Plan.make, Plan.go_on, Plan.exec}
use Rattle.lent.specs.{declared.formatter.Formatter.Formatter, Run.is_refused, Run.answered, View.ring_at, View.queue_of, View.view, View.result_of}
use Rattle.entry.specs.Served.{checked_answer, lent_answer, lent_run, asked_plan}
use Rattle.lent.proofs.TabLaws.{length_tab}

-- ---- waiting spans

pub outside_more : (src : List ℕ) (cs cs' : List Comment) (c : Comment) → cs ≡ c ∷ cs' → in_source src c.span ≡ true → any_outside src cs ≡ any_outside src cs'
outside_more src cs cs' c e h = rw (e, h)

pub outside_here : (src : List ℕ) (cs cs' : List Comment) (c : Comment) → cs ≡ c ∷ cs' → in_source src c.span ≡ false → true ≡ any_outside src cs
outside_here src cs cs' c e h = rw (e, h)

-- ---- the code's tests, one by one

same_answer : (a : Answer) (t4 t5 t6 : Bool) (r : Formatter) → is_refused a ≡ true → a ≡ lent_answer a t4 t5 t6 r
same_answer (Ok tt) t4 t5 t6 r h = let z : ◌≡◌ {A = ℕ} 0 1 = cc in absurd (omega arith)
same_answer (Err e) t4 t5 t6 r h = refl

module _ (src q : List ℕ) (cap : ℕ) (r : Formatter) where
  pub lent_stopped : is_refused r.answer ≡ true → r ≡ lent_run src q cap r
  unfolding lent_run
  lent_stopped h = ap (answered r) (same_answer r.answer _ _ _ r h)

  module _ (open-yet : r.answer ≡ Ok tt) where
    pub lent_past : {o : Formatter} → cap < r.len → o ≡ answered r (Err (NoRoom r.len)) → o ≡ lent_run src q cap r
    unfolding lent_run
    lent_past h e = e ∙ ap (answered r) (rw (open-yet, lt-ltb cap r.len h))

    module _ (fits : r.len ≤ cap) where
      pub lent_many : {o : Formatter} → 256 < r.count → o ≡ answered r (Err (QueueFull (record { 0 = 8192 }))) → o ≡ lent_run src q cap r
      unfolding lent_run
      lent_many h e = e ∙ ap (answered r) (rw (open-yet, le-ltb cap r.len fits, lt-ltb 256 r.count h))

      module _ (few : r.count ≤ 256) {t : Bool} (et : t ≡ any_outside src (queue_of q r.head r.count)) where
        pub lent_outside : {o : Formatter} → t ≡ true → o ≡ answered r (Err (QueueFull (record { 0 = 8192 }))) → o ≡ lent_run src q cap r
        unfolding lent_run
        lent_outside y e = e ∙ ap (answered r) (rw (open-yet, le-ltb cap r.len fits, le-ltb 256 r.count few, sym et ∙ y))

        module _ (inside : t ≡ false) where
          pub lent_deep : {o : Formatter} → 64 < r.indent → o ≡ answered r (Err (IndentOut r.indent)) → o ≡ lent_run src q cap r
          unfolding lent_run
          lent_deep y e = e ∙ ap (answered r) (rw (open-yet, le-ltb cap r.len fits, le-ltb 256 r.count few, sym et ∙ inside, lt-ltb 64 r.indent y))

          pub lent_good : r.indent ≤ 64 → r ≡ lent_run src q cap r
          unfolding lent_run
          lent_good y = ap (answered r) (rw (open-yet, le-ltb cap r.len fits, le-ltb 256 r.count few, sym et ∙ inside, le-ltb 64 r.indent y))

-- ---- and then the steps

module _ (w : World) (r : Formatter) (k : World → Result) (o : Outcome) (e : k w ≡ made w o) where
  lent_tests : (t4 t5 t6 : Bool) → made w (refuse_if t4 (NoRoom r.len) (refuse_if t5 (QueueFull (record { 0 = 8192 })) (refuse_if t6 (IndentOut r.indent) o))) ≡ go_on (checked_answer t4 t5 t6 r) w k
  unfolding refuse_if
  lent_tests true t5 t6 = refl
  lent_tests false true t6 = refl
  lent_tests false false true = refl
  lent_tests false false false = sym e

module _ (x : Script) (r : Formatter) (q b : List ℕ) where
  lent_go : (a : Answer) (k : World → Result) (o : Outcome) → k (world (view r q) b) ≡ made (world (view r q) b) o
      → made (world (view r q) b) (lent a x (length b) (view r q) o) ≡ go_on (lent_answer a (ltb (length b) r.len) (ltb 256 r.count || any_outside x.source (queue_of q r.head r.count)) (ltb 64 r.indent) r) (world (view r q) b) k
  unfolding lent_state
  lent_go (Ok tt) k o e =
      let n : length (queue_of q r.head r.count) ≡ r.count = length_tab (ring_at q) r.head r.count in
      rw n (lent_tests (world (view r q) b) r k o e (ltb (length b) r.len) (ltb 256 r.count || any_outside x.source (queue_of q r.head r.count)) (ltb 64 r.indent))
  lent_go (Err z) k o e = refl

  -- the answer of the run is what opening answers
  pub lent_call : (c : Call) → exec x (make c) (result_of (lent_run x.source q (length b) r) q b) ≡ call r.answer x (world (view r q) b) c
  unfolding exec call serve lent_run
  lent_call c = sym (lent_go r.answer (λ w. made w (step x (capacity w) w.state c)) (step x (length b) (view r q) c) refl)

  record_at : (d : Option Call) → exec x (asked_plan d) (result_of (lent_run x.source q (length b) r) q b) ≡ made (world (view r q) b) (lent r.answer x (length b) (view r q) (asked 0 d (step x (length b) (view r q))))
  unfolding exec lent_run
  record_at none = sym (lent_go r.answer (λ w. result (Err (BadCall 0)) w) (refused (BadCall 0)) refl)
  record_at (some c) = sym (lent_go r.answer (λ w. made w (step x (capacity w) w.state c)) (step x (length b) (view r q) c) refl)

  pub lent_record : (bytes : List ℕ) → exec x (asked_plan (decode bytes)) (result_of (lent_run x.source q (length b) r) q b) ≡ call_record r.answer x (world (view r q) b) bytes
  unfolding call_record serve_record
  lent_record bytes = record_at (decode bytes)
