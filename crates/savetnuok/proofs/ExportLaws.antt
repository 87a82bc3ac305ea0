-- What the exported functions answer and leave, by the branch that they took. Assumes nothing.
use Rattle.std.specs.Prelude.{Ok, Err}
use mathlib.Core.Path.{◌≡◌, refl, sym, ap, subst, ◌∙◌}
use mathlib.Core.Bool.{Bool, true, false, ◌&&◌}
use mathlib.Core.List.{List}
use Prim.Native.Nat.{ℕ, ◌≤◌, ◌<◌, min}
use native.Mathlib.Omega.{arith}
use lib.ListN.{length, get_or}
use lib.Dec.{eqb}
use borrow.Author.Tests.{eqb-true, leb-true, eq-eqb, ne_eqb}
use Rattle.opening.specs.Opening.{opened}
use Rattle.entry.specs.declared.state.State as code
use Rattle.entry.specs.declared.state.Step.{Step}
use Rattle.meaning.specs.Answer.{Answer}
use Rattle.meaning.specs.State.{Script, State, fresh}
use Rattle.meaning.specs.Opening.{script_in, opening}
use Rattle.meaning.specs.Lent.{serve_record}
use Rattle.meaning.specs.Numbers.{seen}
use Rattle.meaning.specs.World.{World, world, Result, result, call_record}
use Rattle.lent.specs.Run.{is_refused}
use Rattle.entry.specs.Served.{state_of, encoded, left_of, Served, record_left}
use Rattle.meaning.proofs.Kept.{Bounded, record_bounded}
use Rattle.entry.specs.Ended.{run_left}
use Rattle.meaning.specs.Plan.{Plan}
use Rattle.rules.proofs.Tame.{Tame}
use Rattle.wire.specs.Words.{word_at, in_bytes}
use Rattle.wire.specs.StateBytes.{shaped, state_in, bytes_of}
use Rattle.wire.specs.CodeState.{code_state, code_words, Wrote}
use Rattle.packing.specs.Places.{place_word, Packed}
use Rattle.savetnuok.specs.Exported.{packed, then_shape, state_left, open_answer, Opened, Handed, call_result, Called, run_result, Laid}
use Rattle.savetnuok.proofs.PlaceLaws.{open_placed, shape_placed}
use Rattle.savetnuok.proofs.ReadLaws.{Agree, agree}
use Rattle.savetnuok.proofs.RunLaws.{run_bounded, agree_run}
use Rattle.wire.proofs.BackLaws.{Words, reads_back, shaped_back}

-- ---- answers

then_good : (a : Answer) → then_shape a true ≡ a
then_good (Ok tt) = refl
then_good (Err r) = refl

then_bad : (a : Answer) → is_refused (then_shape a false) ≡ true
then_bad (Ok tt) = refl
then_bad (Err r) = refl

is_done : (a : Answer) → is_refused a ≡ false → a ≡ Ok tt
is_done (Ok tt) h = refl
is_done (Err r) h = let z : ◌≡◌ {A = ℕ} 0 1 = cc in absurd (omega arith)

never_done : {A : Type 0} (a : Answer) → is_refused a ≡ true → a ≡ Ok tt → A
never_done (Ok tt) h e = let z : ◌≡◌ {A = ℕ} 0 1 = cc in absurd (omega arith)
never_done (Err r) h e = let z : ◌≡◌ {A = ℕ} 0 1 = cc in absurd (omega arith)

stays : (st : List ℕ) (a : Answer) (s : State) → is_refused a ≡ true → st ≡ state_left st a s
stays st (Ok tt) s h = let z : ◌≡◌ {A = ℕ} 0 1 = cc in absurd (omega arith)
stays st (Err r) s h = refl

-- the answer in one number: a is what the meaning answers, a' what the code packed
record Answers (n : ℕ) (a : Answer) : Type 0 where
  number : n ≡ packed a
  fits : (seen a).place < 0x100000000

packs : {n indent : ℕ} (a a' : Answer) → Packed indent a' n → (seen a).number ≡ (seen a').number → (seen a).place ≡ place_word indent a' → Answers n a
unfolding packed
packs a a' q h k = record { number = q.is ∙ rw (h, k); fits = rw k q.fits }

packs_open : {n : ℕ} (src tree : List ℕ) (t : Bool) (a : Answer) → a ≡ then_shape (opening src tree) t → Packed 0 a n → Answers n (then_shape (opening src tree) t)
packs_open src tree t a ea p = packs (then_shape (opening src tree) t) a p (rw ea) (rw ea (shape_placed (opening src tree) t 0 (open_placed (opened src tree) 0)))

-- ---- open

module _ (src tree st : List ℕ) where
  pub open_misshapen : {n : ℕ} {a a' : Answer} → a ≡ opening src tree → (length st ≡ 4128 → ⊥) → a' ≡ then_shape a false → Packed 0 a' n → Opened src tree st n st
  open_misshapen {n} {a} {a'} ea h ea' en =
      let t : eqb (length st) 4128 ≡ false = ne_eqb (length st) 4128 h in
      let p = packs_open src tree false a' (ea' ∙ ap (λ (y : Answer). then_shape y false) ea) en in
      record {
        answer = rw t p.number;
        place_fits = rw t p.fits;
        state = rw t (stays st (then_shape (opening src tree) false) fresh (then_bad (opening src tree)));
      }

  module _ {a : Answer} (ea : a ≡ opening src tree) (sized : length st ≡ 4128) where
    good : open_answer src tree st ≡ a
    good = ap (then_shape (opening src tree)) (eq-eqb (length st) 4128 sized) ∙ then_good (opening src tree) ∙ sym ea

    pub open_refused : {n : ℕ} {t : Bool} → t ≡ is_refused a → t ≡ true → Packed 0 a n → Opened src tree st n st
    open_refused {n} {t} et h en =
        let p = packs_open src tree (eqb (length st) 4128) a (sym good) en in
        record { answer = p.number; place_fits = p.fits; state = rw good (stays st a fresh (sym et ∙ h)) }

    pub open_done : {t : Bool} {s : code.State} {st' : List ℕ} → t ≡ is_refused a → t ≡ false → s ≡ encoded fresh → Wrote (code_words s.now s.queue) st' → Opened src tree st 0 st'
    unfolding packed bytes_of
    open_done {t} {s} {st'} et h es e =
        let d : open_answer src tree st ≡ Ok tt = good ∙ is_done a (sym et ∙ h) in
        record { answer = rw d; place_fits = rw d (omega arith); state = e.bytes_are ∙ rw (es, d) }

-- ---- the shape

and_left : (a b : Bool) → a && b ≡ true → a ≡ true
and_left true b e = refl
and_left false b e = e

and_right : (a b : Bool) → a && b ≡ true → b ≡ true
and_right true b e = e
and_right false b e = let z : ◌≡◌ {A = ℕ} 0 1 = cc in absurd (omega arith)

module _ (st : List ℕ) (cap : ℕ) {t : Bool} (e : t ≡ shaped st cap) (h : t ≡ true) where
  pub shape_sized : length st ≡ 4128
  unfolding shaped
  shape_sized = eqb-true (length st) 4128 (and_left _ _ (sym e ∙ h))

  pub shape_fits : cap ≤ 0xFFFFFFFF
  unfolding shaped
  shape_fits = leb-true cap 0xFFFFFFFF (and_left _ _ (and_right (eqb (length st) 4128) _ (sym e ∙ h)))

-- ---- a call or a run, refused

left_answer : (s : code.State) (a : Answer) (t : State) → (left_of s a t).answer ≡ a
left_answer s (Ok tt) t = refl
left_answer s (Err r) t = refl

handed_refused : (st : List ℕ) (r : Result) {n : ℕ} {b' : List ℕ} → is_refused r.answer ≡ true → Answers n r.answer → b' ≡ r.left.buffer → Handed st r n st b'
handed_refused st r h en eb = record {
  answer = en.number;
  place_fits = en.fits;
  state = stays st r.answer _ h;
  buffer = eb;
  reads = never_done r.answer h;
  shape = never_done r.answer h;
}

-- the shape is wrong
handed_misshapen : (src tree st b : List ℕ) (r : Result) {n : ℕ} {a a' : Answer} → r ≡ result (then_shape (opening src tree) false) (world (state_in st) b) → a ≡ opening src tree → a' ≡ then_shape a false
    → Packed 0 a' n → Handed st r n st b
handed_misshapen src tree st b r {n} {a} {a'} er ea ea' en =
    handed_refused st r (rw er (then_bad (opening src tree))) (rw er (packs_open src tree false a' (ea' ∙ ap (λ (y : Answer). then_shape y false) ea) en)) (rw er)

-- ---- the state has the shape, and the engine was asked: r is what the bytes mean, r' what the engine was asked

module _ (st b : List ℕ) {t : Bool} (et : t ≡ shaped st (length b)) (ht : t ≡ true) {z : Step} {b' : List ℕ} {indent : ℕ} (r r' : Result) (agreed : Agree indent r r')
    (served : Served (code_state st) z b' r') where
  answered : z.answer ≡ r'.answer
  answered = ap (λ (y : Step). y.answer) served.step ∙ left_answer (code_state st) r'.answer r'.left.state

  asked_refused : {n : ℕ} {u : Bool} → u ≡ is_refused z.answer → u ≡ true → Packed indent z.answer n → Handed st r n st b'
  asked_refused {n} {u} eu hu en =
      handed_refused st r (agreed.alike ∙ ap is_refused (sym answered) ∙ sym eu ∙ hu) (packs r.answer r'.answer (rw answered at en) agreed.number agreed.place) (served.buffer ∙ sym agreed.buffer)

  module _ (bounds : r'.answer ≡ Ok tt → Bounded (length b) r'.left.state) {u : Bool} (eu : u ≡ is_refused z.answer) (hu : u ≡ false) where
    went : r'.answer ≡ Ok tt
    went = is_done r'.answer (ap is_refused (sym answered) ∙ sym eu ∙ hu)

    state_is : z.state ≡ encoded r'.left.state
    state_is = ap (λ (y : Step). y.state) served.step ∙ rw went

    asked_len : z.state.now.len < 4294967296
    asked_len = let e : z.state.now.len ≡ r'.left.state.len = ap (λ (y : code.State). y.now.len) state_is in omega (arith, (bounds went).fits, shape_fits st (length b) et ht)

    words : ((i : ℕ) → get_or (code_words z.state.now z.state.queue) i 0 < 0x100000000) → Words r'.left.state
    words f = record { fit = subst (λ (y : code.State). (i : ℕ) → get_or (code_words y.now y.queue) i 0 < 0x100000000) state_is f; few = (bounds went).room }

    asked_done : {st' : List ℕ} → length b' ≡ length b → Wrote (code_words z.state.now z.state.queue) st' → Handed st r 0 st' b'
    unfolding packed bytes_of
    asked_done {st'} long e =
        let same : r ≡ r' = agreed.same went in
        let d : r.answer ≡ Ok tt = ap (λ (y : Result). y.answer) same ∙ went in
        let k : st' ≡ bytes_of r'.left.state = e.bytes_are ∙ ap (λ (y : code.State). in_bytes (code_words y.now y.queue)) state_is in
        let v = words e.fit in
        record {
          answer = rw d;
          place_fits = rw d (omega arith);
          state = k ∙ rw (d, same);
          buffer = served.buffer ∙ rw same;
          reads = λ _. rw (k, same) (reads_back r'.left.state v);
          shape = λ _. rw k (shaped_back r'.left.state v (length b') (omega (arith, shape_fits st (length b) et ht)));
        }

-- ---- call

refused_first : (a : Answer) (x : Script) (w : World) (bytes : List ℕ) → is_refused a ≡ true → call_record a x w bytes ≡ result a w
unfolding call_record serve_record
refused_first (Ok tt) x w bytes h = let z : ◌≡◌ {A = ℕ} 0 1 = cc in absurd (omega arith)
refused_first (Err r) x w bytes h = refl

module _ (src tree st b bytes : List ℕ) {t : Bool} (et : t ≡ shaped st (length b)) where
  pub call_misshapen : {n : ℕ} {a a' : Answer} → t ≡ false → a ≡ opening src tree → a' ≡ then_shape a false → Packed 0 a' n → Called src tree st b bytes n st b
  call_misshapen h ea ea' en =
      let f : shaped st (length b) ≡ false = sym et ∙ h in
      handed_misshapen src tree st b (call_result src tree st b bytes)
      (rw f (refused_first (then_shape (opening src tree) false) (script_in src tree) (world (state_in st) b) bytes (then_bad (opening src tree)))) ea ea' en

  module _ (ht : t ≡ true) {s : code.State} (es : s ≡ code_state st) (small : s.now.len < 0x100000000) {z : Step} {b' : List ℕ} (promised : Served s z b' (record_left src tree s b bytes)) where
    by_engine : Result
    by_engine = record_left src tree (code_state st) b bytes

    served : Served (code_state st) z b' by_engine
    unfolding by_engine
    served = rw es at promised

    len_small : word_at st 0 < 0x100000000
    len_small = rw es at small

    agreed : Agree (word_at st 4) (call_result src tree st b bytes) by_engine
    unfolding by_engine
    agreed =
        let f : shaped st (length b) ≡ true = sym et ∙ ht in
        rw (f, then_good (opening src tree)) (agree (opening src tree) (script_in src tree) st b bytes len_small (open_placed (opened src tree) (word_at st 4)))

    bounded : by_engine.answer ≡ Ok tt → Bounded (length b) by_engine.left.state
    unfolding by_engine
    bounded = record_bounded (opening src tree) (script_in src tree) (world (state_of (code_state st)) b) bytes

    pub call_refused : {n indent : ℕ} {u : Bool} → u ≡ is_refused z.answer → u ≡ true → indent ≡ word_at st 4 → Packed indent z.answer n → Called src tree st b bytes n st b'
    call_refused eu hu ei en = asked_refused st b et ht (call_result src tree st b bytes) by_engine agreed served eu hu (rw ei at en)

    module _ {u : Bool} (eu : u ≡ is_refused z.answer) (hu : u ≡ false) where
      pub call_len : z.state.now.len < 4294967296
      call_len = asked_len st b et ht (call_result src tree st b bytes) by_engine agreed served bounded eu hu

      pub call_done : {st' : List ℕ} → length b' ≡ length b → Wrote (code_words z.state.now z.state.queue) st' → Called src tree st b bytes 0 st' b'
      call_done = asked_done st b et ht (call_result src tree st b bytes) by_engine agreed served bounded eu hu

-- ---- run and layout: a plan that refuses by record numbers only

module _ (src tree st b : List ℕ) (p : Plan) (a : Tame p) {t : Bool} (et : t ≡ shaped st (length b)) where
  pub run_misshapen : {n : ℕ} {a a' : Answer} → t ≡ false → a ≡ opening src tree → a' ≡ then_shape a false → Packed 0 a' n → Laid src tree st b p n st b
  run_misshapen h ea ea' en = let f : shaped st (length b) ≡ false = sym et ∙ h in handed_misshapen src tree st b (run_result src tree st b p) (rw f) ea ea' en

  module _ (ht : t ≡ true) {s : code.State} (es : s ≡ code_state st) (small : s.now.len < 0x100000000) {z : Step} {b' : List ℕ} (promised : Served s z b' (run_left src tree s b p)) where
    by_rules : Result
    by_rules = run_left src tree (code_state st) b p

    laid_served : Served (code_state st) z b' by_rules
    unfolding by_rules
    laid_served = rw es at promised

    laid_small : word_at st 0 < 0x100000000
    laid_small = rw es at small

    laid_agreed : Agree (word_at st 4) (run_result src tree st b p) by_rules
    unfolding by_rules
    laid_agreed =
        let f : shaped st (length b) ≡ true = sym et ∙ ht in
        rw f (agree_run (opening src tree) (script_in src tree) st b p laid_small (shape_fits st (length b) et ht) (open_placed (opened src tree) (word_at st 4)) a)

    laid_bounded : by_rules.answer ≡ Ok tt → Bounded (length b) by_rules.left.state
    unfolding by_rules
    laid_bounded =
        run_bounded (script_in src tree) (world (state_of (code_state st)) b) laid_small (opening src tree) (open_placed (opened src tree) (min (word_at st 4) 255)) (shape_fits st (length b) et ht) p
        a

    pub run_refused : {n indent : ℕ} {u : Bool} → u ≡ is_refused z.answer → u ≡ true → indent ≡ word_at st 4 → Packed indent z.answer n → Laid src tree st b p n st b'
    run_refused eu hu ei en = asked_refused st b et ht (run_result src tree st b p) by_rules laid_agreed laid_served eu hu (rw ei at en)

    module _ {u : Bool} (eu : u ≡ is_refused z.answer) (hu : u ≡ false) where
      pub run_len : z.state.now.len < 4294967296
      run_len = asked_len st b et ht (run_result src tree st b p) by_rules laid_agreed laid_served laid_bounded eu hu

      pub run_done : {st' : List ℕ} → length b' ≡ length b → Wrote (code_words z.state.now z.state.queue) st' → Laid src tree st b p 0 st' b'
      run_done = asked_done st b et ht (run_result src tree st b p) by_rules laid_agreed laid_served laid_bounded eu hu
