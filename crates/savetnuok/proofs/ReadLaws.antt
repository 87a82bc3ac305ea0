-- The state that the engine is handed against the state that the bytes mean: the same, or both are refused alike. Assumes nothing.
use Rattle.std.specs.Prelude.{Ok, Err}
use mathlib.Core.Path.{◌≡◌, refl, sym, ap, ◌∙◌}
use mathlib.Core.Bool.{Bool, true, false, cond, ◌||◌}
use mathlib.Core.List.{List}
use Prim.Native.Nat.{ℕ, zero, suc, ◌+◌, ◌*◌, ◌%◌, ◌≤◌, ◌<◌, min}
use native.Mathlib.Nat.{min-eq_left, min-eq_right}
use native.Mathlib.Omega.{arith}
use lib.ListN.{length, get_or}
use lib.Dec.{leb, ltb}
use borrow.Author.Tests.{leb-true, leb-false, lt-ltb}
use Rattle.meaning.specs.declared.answer.Refusal.{Refusal}
use Rattle.meaning.specs.declared.answer.Refusal.TheVariants.{NoRoom, QueueFull, IndentOut}
use Rattle.meaning.specs.Answer.{Answer}
use Rattle.meaning.specs.State.{Script, Comment, State}
use Rattle.meaning.specs.Outcome.{Outcome, refused, refuse_if}
use Rattle.meaning.specs.CallRecord.{decode, asked}
use Rattle.meaning.specs.Calls.{step}
use Rattle.meaning.specs.Lent.{any_outside, lent_state, serve_record}
use Rattle.meaning.specs.Numbers.{refusal_seen, seen}
use Rattle.meaning.specs.World.{World, world, Result, result, call_record}
use Rattle.lent.specs.Run.{is_refused}
use Rattle.lent.specs.View.{tab, ring_at}
use Rattle.entry.specs.Served.{state_of}
use Rattle.lent.proofs.TabLaws.{length_tab, tab_same}
use Rattle.wire.specs.Words.{word_at}
use Rattle.wire.specs.StateBytes.{comment_at, state_in}
use Rattle.wire.specs.CodeState.{code_state}
use Rattle.packing.specs.Places.{refusal_place, place_word}
use Rattle.savetnuok.proofs.PlaceLaws.{handed_indent, record_placed}

-- ---- the queue

get_d_tab : {A : Type 0} (f : ℕ → A) (i n j : ℕ) (d : A) → j < n → get_or (tab f i n) j d ≡ f (i + j)
unfolding tab
get_d_tab f i zero j d l = absurd (omega arith)
get_d_tab f i (suc n) zero d l = let e : i + 0 ≡ i = omega arith in rw e
get_d_tab f i (suc n) (suc j) d l = let e : i + suc j ≡ suc i + j = omega arith in rw e (get_d_tab f (suc i) n j d (omega arith))

module _ (st : List ℕ) where
  slot_same : (k : ℕ) → k < 256 → comment_at st k ≡ ring_at (tab (word_at st) 8 1024) k
  slot_same k l =
      let m : k % 256 ≡ k = omega arith in
      let g : (j : ℕ) → j < 4 → get_or (tab (word_at st) 8 1024) (k * 4 + j) 0 ≡ word_at st (8 + (k * 4 + j)) = λ j b. get_d_tab (word_at st) 8 1024 (k * 4 + j) 0 (omega arith) in
      let e₁ : 8 + (k * 4 + 1) ≡ 8 + k * 4 + 1 = omega arith in
      let e₂ : 8 + (k * 4 + 2) ≡ 8 + k * 4 + 2 = omega arith in
      let e₃ : 8 + (k * 4 + 3) ≡ 8 + k * 4 + 3 = omega arith in
      rw (m, get_d_tab (word_at st) 8 1024 (k * 4) 0 (omega arith), g 1 (omega arith), g 2 (omega arith), g 3 (omega arith), e₁, e₂, e₃)

  queue_same : word_at st 6 ≤ 256 → (state_in st).queue ≡ (state_of (code_state st)).queue
  unfolding state_in
  queue_same few = tab_same (comment_at st) (ring_at (tab (word_at st) 8 1024)) 0 0 (word_at st 6) (λ k l. slot_same (0 + k) (omega arith))

  state_same : word_at st 6 ≤ 256 → word_at st 4 ≤ 255 → state_in st ≡ state_of (code_state st)
  unfolding state_in
  state_same few low =
      let m : min (word_at st 4) 255 ≡ word_at st 4 = min-eq_left low in
      rw (m, ← queue_same few)

-- ---- states that 5 or 6 refuse, whatever is asked of them

abbrev pub early : Answer → Bool → Bool → ℕ → ℕ → Refusal
early (Err r) t4 t5 len indent = r
early (Ok tt) t4 t5 len indent = cond t4 (NoRoom len) (cond t5 (QueueFull (record { 0 = 8192 })) (IndentOut indent))

pub tests : (t4 t5 t6 : Bool) (len indent : ℕ) (o : Outcome) → t5 || t6 ≡ true
    → refuse_if t4 (NoRoom len) (refuse_if t5 (QueueFull (record { 0 = 8192 })) (refuse_if t6 (IndentOut indent) o)) ≡ refused (early (Ok tt) t4 t5 len indent)
unfolding refuse_if
tests true t5 t6 len indent o h = refl
tests false true t6 len indent o h = refl
tests false false true len indent o h = refl
tests false false false len indent o h = let z : ◌≡◌ {A = ℕ} 0 1 = cc in absurd (omega arith)

or_true : (t : Bool) → t || true ≡ true
or_true true = refl
or_true false = refl

abbrev pub fifth : Script → State → Bool
fifth x s = ltb 256 (length s.queue) || any_outside x.source s.queue

-- ---- so the two results agree

-- r is what the bytes mean, r' what the engine was asked; the code names the place by r' and the lent indent
pub record Agree (indent : ℕ) (r r' : Result) : Type 0 where
  pub number : (seen r.answer).number ≡ (seen r'.answer).number
  pub place : (seen r.answer).place ≡ place_word indent r'.answer
  pub alike : is_refused r.answer ≡ is_refused r'.answer
  pub buffer : r.left.buffer ≡ r'.left.buffer
  pub same : r'.answer ≡ Ok tt → r ≡ r'

agree_refused : {indent : ℕ} (r r' : Refusal) (w w' : World) → (refusal_seen r).number ≡ (refusal_seen r').number → (refusal_seen r).place ≡ refusal_place indent r' → w.buffer ≡ w'.buffer
    → Agree indent (result (Err r) w) (result (Err r') w')
agree_refused r r' w w' n p b = record { number = n; place = p; alike = refl; buffer = b; same = λ e. let z : ◌≡◌ {A = ℕ} 0 1 = cc in absurd (omega arith) }

early_number : (a : Answer) (t4 t5 : Bool) (len indent indent' : ℕ) → (refusal_seen (early a t4 t5 len indent)).number ≡ (refusal_seen (early a t4 t5 len indent')).number
early_number (Ok tt) true t5 len indent indent' = refl
early_number (Ok tt) false true len indent indent' = refl
early_number (Ok tt) false false len indent indent' = refl
early_number (Err r) t4 t5 len indent indent' = refl

early_placed : (a : Answer) (t4 t5 : Bool) (len indent : ℕ) → len < 0x100000000 → (seen a).place ≡ place_word indent a
    → (refusal_seen (early a t4 t5 len indent)).place ≡ refusal_place indent (early a t4 t5 len (min indent 255))
early_placed (Ok tt) true t5 len indent l e = omega arith
early_placed (Ok tt) false true len indent l e = refl
early_placed (Ok tt) false false len indent l e = handed_indent indent
early_placed (Err r) t4 t5 len indent l e = e

-- for whatever is asked of a state: refused early it leaves the state, and a buffer that hangs on its length
module _ (a : Answer) (x : Script) (st b : List ℕ) (does : State → Result) (left : ℕ → List ℕ)
    (stopped : (s : State) → fifth x s || ltb 64 s.indent ≡ true → does s ≡ result (Err (early a (ltb (length b) s.len) (fifth x s) s.len s.indent)) (world s (left s.len)))
    (small : word_at st 0 < 0x100000000) (opened : (seen a).place ≡ place_word (word_at st 4) a) (placed : (seen (does (state_in st)).answer).place ≡ place_word (word_at st 4) (does (state_in st)).answer) where
  same_state : state_in st ≡ state_of (code_state st) → Agree (word_at st 4) (does (state_in st)) (does (state_of (code_state st)))
  same_state h =
      let r : does (state_in st) ≡ does (state_of (code_state st)) = ap does h in
      record {
        number = ap (λ (z : Result). (seen z.answer).number) r;
        place = placed ∙ ap (λ (z : Result). place_word (word_at st 4) z.answer) r;
        alike = ap (λ (z : Result). is_refused z.answer) r;
        buffer = ap (λ (z : Result). z.left.buffer) r;
        same = λ _. r;
      }

  both_early : fifth x (state_in st) ≡ fifth x (state_of (code_state st)) → fifth x (state_in st) || ltb 64 (word_at st 4) ≡ true
      → fifth x (state_of (code_state st)) || ltb 64 (min (word_at st 4) 255) ≡ true → Agree (word_at st 4) (does (state_in st)) (does (state_of (code_state st)))
  unfolding state_in
  both_early f h h' =
      rw (stopped (state_in st) h, stopped (state_of (code_state st)) h', f)
      (agree_refused _ _ _ _ (early_number a (ltb (length b) (word_at st 0)) (fifth x (state_of (code_state st))) (word_at st 0) (word_at st 4) (min (word_at st 4) 255)) (early_placed a (ltb (length b) (word_at st 0)) (fifth x (state_of (code_state st))) (word_at st 0) (word_at st 4) small opened) refl)

  many : 256 < word_at st 6 → Agree (word_at st 4) (does (state_in st)) (does (state_of (code_state st)))
  unfolding state_in
  many l =
      let n : length (state_in st).queue ≡ word_at st 6 = length_tab (comment_at st) 0 (word_at st 6) in
      let n' : length (state_of (code_state st)).queue ≡ word_at st 6 = length_tab (ring_at (tab (word_at st) 8 1024)) 0 (word_at st 6) in
      let f : fifth x (state_in st) ≡ true = rw (n, lt-ltb 256 (word_at st 6) l) in
      let f' : fifth x (state_of (code_state st)) ≡ true = rw (n', lt-ltb 256 (word_at st 6) l) in
      both_early (f ∙ sym f') (rw f) (rw f')

  deep : word_at st 6 ≤ 256 → 255 < word_at st 4 → Agree (word_at st 4) (does (state_in st)) (does (state_of (code_state st)))
  deep few l =
      let m : min (word_at st 4) 255 ≡ 255 = min-eq_right (omega arith) in
      both_early (ap (λ (q : List Comment). ltb 256 (length q) || any_outside x.source q) (queue_same st few)) (rw (lt-ltb 64 (word_at st 4) (omega arith)) (or_true (fifth x (state_in st)))) (rw m (or_true (fifth x (state_of (code_state st)))))

  agree_at : (t u : Bool) → leb (word_at st 6) 256 ≡ t → leb (word_at st 4) 255 ≡ u → Agree (word_at st 4) (does (state_in st)) (does (state_of (code_state st)))
  agree_at true true p q = same_state (state_same st (leb-true (word_at st 6) 256 p) (leb-true (word_at st 4) 255 q))
  agree_at true false p q = deep (leb-true (word_at st 6) 256 p) (leb-false (word_at st 4) 255 q)
  agree_at false u p q = many (leb-false (word_at st 6) 256 p)

  pub agree_both : Agree (word_at st 4) (does (state_in st)) (does (state_of (code_state st)))
  agree_both = agree_at (leb (word_at st 6) 256) (leb (word_at st 4) 255) refl refl

-- ---- a call record

refused_early : (a : Answer) (x : Script) (s : State) (b : List ℕ) (bytes : List ℕ) → fifth x s || ltb 64 s.indent ≡ true
    → call_record a x (world s b) bytes ≡ result (Err (early a (ltb (length b) s.len) (fifth x s) s.len s.indent)) (world s b)
unfolding call_record serve_record lent_state
refused_early (Err r) x s b bytes h = refl
refused_early (Ok tt) x s b bytes h = rw (tests (ltb (length b) s.len) (fifth x s) (ltb 64 s.indent) s.len s.indent (asked 0 (decode bytes) (step x (length b) s)) h)

pub agree : (a : Answer) (x : Script) (st b bytes : List ℕ) → word_at st 0 < 0x100000000 → (seen a).place ≡ place_word (word_at st 4) a
    → Agree (word_at st 4) (call_record a x (world (state_in st) b) bytes) (call_record a x (world (state_of (code_state st)) b) bytes)
unfolding state_in
agree a x st b bytes small e =
    agree_both a x st b (λ (s : State). call_record a x (world s b) bytes) (λ _. b) (λ s h. refused_early a x s b bytes h) small e (record_placed a x (world (state_in st) b) bytes small e)
