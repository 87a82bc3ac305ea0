-- A release, whole: the two passes leave what the meaning's line release or space release leaves. Assumes nothing.
use Rattle.text.proofs.Base.{◌≡◌, refl, sym, ap, ◌∙◌, List, [], ◌∷◌, ◌++◌, Bool, true, false, cond, ◌&&◌, ℕ, zero, suc, ◌+◌, ◌-◌, ◌%◌, ◌<◌}
use Rattle.text.proofs.Base.{◌≤◌, arith, length, take, drop, ltb, eqb, lt-ltb, le-ltb, ltb-true}
use mathlib.Core.List.{append_assoc, append-nil}
use native.Mathlib.Nat.{zero-add}
use lib.ListN.{length-append}
use lib.Seq.{sets}
use lib.Dec.{eqb-suc-zero}
use Rattle.meaning.specs.{declared.answer.Refusal.TheVariants.NoRoom, Answer.Answer}
use Rattle.meaning.specs.{State.Comment, State.State, State.with_queue, State.with_len}
use Rattle.meaning.specs.{Pieces.gap, Pieces.flat}
use Rattle.meaning.specs.{Outcome.refuse_if, Release.take_until, Release.drop_until, Release.is_nil, Release.is_empty, Release.comment_text}
use Rattle.meaning.specs.{Release.stop_line, Release.stop_space, Release.line_gap, Release.trimmed, Release.line_pieces, Release.space_gap}
use Rattle.meaning.specs.{Release.space_pieces, Release.behind_gap, World.world, World.result, World.made}
use Rattle.meaning.proofs.Laws.{flat_append}
use Rattle.lent.specs.{declared.formatter.Formatter.Formatter, Run.answered, Run.let_out_run, declared.room.Gap.Gap}
use Rattle.queue.specs.{declared.release.Way.Way}
use Rattle.queue.specs.{declared.release.Way.TheVariants.Lines, declared.release.Way.TheVariants.Spaces}
use Rattle.lent.specs.{View.tab, View.ring_at, View.queue_of}
use Rattle.std.specs.Prelude.{None, Some, Ok, Err}
use Rattle.lent.specs.{View.view, View.result_of, View.gap_bytes, View.Laid}
use Rattle.queue.specs.{Passes.release_of, Passes.stop_of, Passes.front_of, Passes.back_of}
use Rattle.queue.specs.{Passes.bytes_on, Passes.bytes_from, Passes.going, Passes.reach, Passes.written, Passes.Measured}
use Rattle.queue.specs.{Parts.LetsOut, Parts.settles, Parts.onward}
use Rattle.lent.proofs.{WriteLaws.sets_append, WriteLaws.gap_length, TabLaws.length_tab, TabLaws.drop_tab, TabLaws.take_tab}
use Rattle.lent.proofs.{RingLaws.head_mod}
use Rattle.queue.proofs.{StepLaws.open_steps, PassLaws.fit, PassLaws.fit_goes, PassLaws.fit_past}

-- ---- the flag that the output is empty is a test of its length

nil_eqb : (xs : List ℕ) → is_nil xs ≡ eqb (length xs) 0
nil_eqb [] = refl
nil_eqb (x ∷ xs) = sym (eqb-suc-zero (length xs))

empty_next : (len : ℕ) (on t : List ℕ) → (len ≡ 0 → on ≡ t) → (eqb len 0 && is_nil t) ≡ eqb (len + length on) 0
empty_next zero on t h = rw (h refl, zero-add) (nil_eqb t)
empty_next (suc len) on t h = let e : suc len + length on ≡ suc (len + length on) = omega arith in rw (e, eqb-suc-zero len, eqb-suc-zero (len + length on))

no_gap : (front : Bool) → space_gap front true ≡ []
no_gap true = refl
no_gap false = refl

-- ---- the pieces, in bytes

module _ (src : List ℕ) (ind : ℕ) where
  line_text : (same front : Bool) (len : ℕ) (c : Comment) → len ≡ 0 → bytes_on src (Lines same) ind front len c ≡ trimmed src c
  line_text same front len c e = rw e

  line_flat : (same front : Bool) (len : ℕ) (cs : List Comment) → flat (line_pieces src ind (eqb len 0) cs) ≡ bytes_from src (Lines same) ind front len cs
  unfolding line_pieces bytes_from
  line_flat same front len [] = refl
  line_flat same front len (c ∷ cs) =
      ap (λ (b : Bool). line_gap ind (eqb len 0) c.before ++ (trimmed src c ++ flat (line_pieces src ind b cs))) (empty_next len (bytes_on src (Lines same) ind front len c) (trimmed src c) (line_text same front len c))
      ∙ ap (λ (x : List ℕ). line_gap ind (eqb len 0) c.before ++ (trimmed src c ++ x)) (line_flat same true (len + length (bytes_on src (Lines same) ind front len c)) cs)
      ∙ sym (append_assoc (line_gap ind (eqb len 0) c.before) (trimmed src c) _)

  space_text : (first back front : Bool) (len : ℕ) (c : Comment) → len ≡ 0 → bytes_on src (Spaces first back) ind front len c ≡ comment_text src c
  space_text first back front len c e = rw (e, no_gap front)

  space_flat : (first back front : Bool) (len : ℕ) (cs : List Comment) → flat (space_pieces src front (eqb len 0) cs) ≡ bytes_from src (Spaces first back) ind front len cs
  unfolding space_pieces bytes_from
  space_flat first back front len [] = refl
  space_flat first back front len (c ∷ cs) =
      ap (λ (b : Bool). space_gap front (eqb len 0) ++ (comment_text src c ++ flat (space_pieces src true b cs))) (empty_next len (bytes_on src (Spaces first back) ind front len c) (comment_text src c) (space_text first back front len c))
      ∙ ap (λ (x : List ℕ). space_gap front (eqb len 0) ++ (comment_text src c ++ x)) (space_flat first back true (len + length (bytes_on src (Spaces first back) ind front len c)) cs)
      ∙ sym (append_assoc (space_gap front (eqb len 0)) (comment_text src c) _)

no_back : (same : Bool) (n : ℕ) → back_of (Lines same) n ≡ []
no_back same zero = refl
no_back same (suc n) = refl

back_is : (front back : Bool) (cs : List Comment) → behind_gap back cs ++ [] ≡ back_of (Spaces front back) (length cs)
back_is front back [] = refl
back_is front back (c ∷ cs) = append-nil (cond back (0x20 ∷ []) [])

-- what a release writes, by either kind
pub release_flat : (src : List ℕ) (w : Way) (s : State) → flat (release_of src w s).out ≡ written src w s
unfolding going
release_flat src (Lines same) s =
    line_flat src s.indent same false s.len (take_until (stop_line same) s.queue)
    ∙ sym (append-nil _)
    ∙ ap (bytes_from src (Lines same) s.indent false s.len (take_until (stop_line same) s.queue) ++◌) (sym (no_back same (length (take_until (stop_line same) s.queue))))
release_flat src (Spaces front back) s =
    flat_append (space_pieces src front (is_empty s) (take_until stop_space s.queue)) (gap (behind_gap back (take_until stop_space s.queue)) ∷ [])
    ∙ ap (◌++ (behind_gap back (take_until stop_space s.queue) ++ [])) (space_flat src s.indent front back front s.len (take_until stop_space s.queue))
    ∙ ap (bytes_from src (Spaces front back) s.indent front s.len (take_until stop_space s.queue) ++◌) (back_is front back (take_until stop_space s.queue))

release_state : (src : List ℕ) (w : Way) (s : State) → (release_of src w s).state ≡ with_len (with_queue s (drop_until (stop_of w) s.queue)) (s.len + length (written src w s))
release_state src (Lines same) s = ap (λ (x : List ℕ). with_len (with_queue s (drop_until (stop_line same) s.queue)) (s.len + length x)) (release_flat src (Lines same) s)
release_state src (Spaces front back) s = ap (λ (x : List ℕ). with_len (with_queue s (drop_until stop_space s.queue)) (s.len + length x)) (release_flat src (Spaces front back) s)

-- ---- what goes and what stays, by their number

take_cond : (b : Bool) (c : Comment) (xs cs : List Comment) → xs ≡ take (length xs) cs → cond b [] (c ∷ xs) ≡ take (length (cond b [] (c ∷ xs))) (c ∷ cs)
take_cond true c xs cs e = refl
take_cond false c xs cs e = ap (c ∷◌) e

until_take : (f : Comment → Bool) (cs : List Comment) → take_until f cs ≡ take (length (take_until f cs)) cs
until_take f [] = refl
until_take f (c ∷ cs) = take_cond (f c) c (take_until f cs) cs (until_take f cs)

drop_cond : (b : Bool) (c : Comment) (xs ys cs : List Comment) → ys ≡ drop (length xs) cs → cond b (c ∷ cs) ys ≡ drop (length (cond b [] (c ∷ xs))) (c ∷ cs)
drop_cond true c xs ys cs e = refl
drop_cond false c xs ys cs e = e

until_drop : (f : Comment → Bool) (cs : List Comment) → drop_until f cs ≡ drop (length (take_until f cs)) cs
until_drop f [] = refl
until_drop f (c ∷ cs) = drop_cond (f c) c (take_until f cs) (drop_until f cs) cs (until_drop f cs)

few_cond : (b : Bool) (c : Comment) (xs : List Comment) (n : ℕ) → length xs ≤ n → length (cond b [] (c ∷ xs)) ≤ suc n
few_cond true c xs n h = omega arith
few_cond false c xs n h = omega arith

until_few : (f : Comment → Bool) (cs : List Comment) → length (take_until f cs) ≤ length cs
until_few f [] = omega arith
until_few f (c ∷ cs) = few_cond (f c) c (take_until f cs) (length cs) (until_few f cs)

module _ (w : Way) (q : List ℕ) (h n k : ℕ) (e : k ≡ length (going w (queue_of q h n))) where
  going_few : k ≤ n
  unfolding going
  going_few = omega (arith, until_few (stop_of w) (queue_of q h n), length_tab (ring_at q) h n)

  going_is : queue_of q h k ≡ going w (queue_of q h n)
  unfolding going
  going_is = sym (take_tab (ring_at q) h n k going_few) ∙ ap (λ (j : ℕ). take j (queue_of q h n)) e ∙ sym (until_take (stop_of w) (queue_of q h n))

  staying_is : queue_of q ((h + k) % 256) (n - k) ≡ drop_until (stop_of w) (queue_of q h n)
  unfolding going
  staying_is = head_mod q (h + k) (n - k) ∙ sym (drop_tab (ring_at q) h n k) ∙ ap (λ (j : ℕ). drop j (queue_of q h n)) e ∙ sym (until_drop (stop_of w) (queue_of q h n))

-- ---- the outcome

module _ (src : List ℕ) (w : Way) (s : State) (b : List ℕ) where
  no_room : ltb (length b) (s.len + length (written src w s)) ≡ true → made (world s b) (settles (length b) s (release_of src w s) (λ s'. s')) ≡ result (Err (NoRoom s.len)) (world s b)
  unfolding refuse_if
  no_room h = rw (release_state src w s, h)

  moved : ltb (length b) (s.len + length (written src w s)) ≡ false → made (world s b) (settles (length b) s (release_of src w s) (λ s'. s'))
      ≡ result (Ok tt) (world (with_len (with_queue s (drop_until (stop_of w) s.queue)) (s.len + length (written src w s))) (sets b s.len (written src w s)))
  unfolding refuse_if
  moved h = rw (release_state src w s, h, release_flat src w s)

same_done : (s : State) (len len' : ℕ) (cs cs' : List Comment) (b b' : List ℕ) → len ≡ len' → cs ≡ cs' → b ≡ b' → result (Ok tt) (world (with_len (with_queue s cs) len) b) ≡ result (Ok tt) (world (with_len (with_queue s cs') len') b')
same_done s len len' cs cs' b b' e1 e2 e3 = rw (e1, e2, e3)

module _ (src : List ℕ) (w : Way) (q : List ℕ) (run : Formatter) (b : List ℕ) (open-yet : run.answer ≡ Ok tt) where
  steps_are : onward (λ cap s. settles cap s (release_of src w s) (λ s'. s')) (result_of run q b) ≡ made (world (view run q) b) (settles (length b) (view run q) (release_of src w (view run q)) (λ s'. s'))
  steps_are = open_steps _ run.answer (world (view run q) b) open-yet

  over : {o : Formatter} → length b < run.len + length (written src w (view run q)) → o ≡ answered run (Err (NoRoom run.len)) → LetsOut src w q run b o b
  over h e = record { out = rw e (sym (steps_are ∙ no_room src w (view run q) b (lt-ltb _ _ h))); stays = λ _. rw e }

  -- the first pass found no room
  pub release_past : {o : Formatter} → Measured src w run.indent run.len (length b) (queue_of q run.head run.count) None → o ≡ answered run (Err (NoRoom run.len)) → LetsOut src w q run b o b
  release_past f e =
      let g = going w (queue_of q run.head run.count) in
      let h : length b < reach src w run.indent (front_of w) run.len (going w (queue_of q run.head run.count)) = ltb-true _ _ (fit_past _ _ _ (sym f.out)) in
      let l : length (written src w (view run q)) ≡ _ = length-append (bytes_from src w run.indent (front_of w) run.len (going w (queue_of q run.head run.count))) (back_of w (length (going w (queue_of q run.head run.count)))) in
      over (omega arith) e

  module _ (n len : ℕ) (g : Gap) (f : Measured src w run.indent run.len (length b) (queue_of q run.head run.count) (Some (fit n len))) (eg : gap_bytes g ≡ back_of w n) where
    counted : n ≡ length (going w (queue_of q run.head run.count))
    counted = (fit_goes (ltb (length b) (reach src w run.indent (front_of w) run.len (going w (queue_of q run.head run.count)))) (length (going w (queue_of q run.head run.count))) (reach src w run.indent (front_of w) run.len (going w (queue_of q run.head run.count))) n len (sym f.out)).1

    reached : len ≡ reach src w run.indent (front_of w) run.len (going w (queue_of q run.head run.count))
    reached = (fit_goes (ltb (length b) (reach src w run.indent (front_of w) run.len (going w (queue_of q run.head run.count)))) (length (going w (queue_of q run.head run.count))) (reach src w run.indent (front_of w) run.len (going w (queue_of q run.head run.count))) n len (sym f.out)).2

    behind : gap_bytes g ≡ back_of w (length (going w (queue_of q run.head run.count)))
    behind = eg ∙ ap (back_of w) counted

    total : len + (g.lines + g.spaces) ≡ run.len + length (written src w (view run q))
    total =
        let l : length (written src w (view run q)) ≡ _ = length-append (bytes_from src w run.indent (front_of w) run.len (going w (queue_of q run.head run.count))) (back_of w (length (going w (queue_of q run.head run.count)))) in
        let r : length (back_of w (length (going w (queue_of q run.head run.count)))) ≡ g.lines + g.spaces = ap length (sym behind) ∙ gap_length g in
        omega (arith, reached)

    -- the space behind does not fit
    pub release_over : {o : Formatter} → ltb (length b) (len + (g.lines + g.spaces) + 0) ≡ true → o ≡ answered run (Err (NoRoom run.len)) → LetsOut src w q run b o b
    release_over h e = over (omega (arith, ltb-true (length b) (len + (g.lines + g.spaces) + 0) h, total)) e

    -- there is room for the second pass
    pub release_room : len ≤ length b → reach src w run.indent (front_of w) run.len (queue_of q run.head n) ≤ length b
    release_room h = rw (going_is w q run.head run.count n counted) (omega (arith, reached))

    pub release_few : n ≤ run.count
    release_few = going_few w q run.head run.count n counted

    pub release_done : {o : Formatter} {b1 b2 : List ℕ} {end : ℕ} → len + (g.lines + g.spaces) + 0 ≤ length b
        → b1 ≡ sets b run.len (bytes_from src w run.indent (front_of w) run.len (queue_of q run.head n)) → Laid b1 len g [] end b2 → o ≡ let_out_run run n end
        → LetsOut src w q run b o b2
    release_done {o} {b1} {b2} {end} h h1 h2 eo =
        let m : end ≡ run.len + length (written src w (view run q)) = omega (arith, h2.end, total) in
        let y : b2 ≡ sets b run.len (written src w (view run q)) =
        h2.bytes ∙ both b b1 (bytes_from src w run.indent (front_of w) run.len (going w (queue_of q run.head run.count))) (back_of w (length (going w (queue_of q run.head run.count)))) (gap_bytes g ++ []) run.len len (h1 ∙ ap (λ (cs : List Comment). sets b run.len (bytes_from src w run.indent (front_of w) run.len cs)) (going_is w q run.head run.count n counted)) reached (append-nil _ ∙ behind) in
        record {
          out =
              rw (eo, open-yet) (same_done (view run q) _ _ _ _ _ _ m (staying_is w q run.head run.count n counted) y)
              ∙ sym (steps_are ∙ moved src w (view run q) b (le-ltb (length b) (run.len + length (written src w (view run q))) (omega (arith, total))));
          stays = λ y. let z : ◌≡◌ {A = Bool} false true = sym (rw (eo, open-yet)) ∙ y in let v : ◌≡◌ {A = ℕ} 0 1 = cc in absurd (omega arith);
        }
      where
        both : (b b1 x y z : List ℕ) (at to : ℕ) → b1 ≡ sets b at x → to ≡ at + length x → z ≡ y → sets b1 to z ≡ sets b at (x ++ y)
        both b b1 x y z at to e1 e2 e3 = cc (sets_append b x y at)

-- ---- nothing goes

module _ (src : List ℕ) (w : Way) (s : State) (b : List ℕ) (none : going w s.queue ≡ []) (inside : s.len ≤ length b) where
  none_written : written src w s ≡ []
  unfolding bytes_from
  none_written = rw none (by_way w)
    where
      by_way : (w : Way) → bytes_from src w s.indent (front_of w) s.len [] ++ back_of w 0 ≡ []
      by_way (Lines same) = refl
      by_way (Spaces front back) = refl

  all_stay : drop_until (stop_of w) s.queue ≡ s.queue
  unfolding going
  all_stay = until_drop (stop_of w) s.queue ∙ ap (λ (cs : List Comment). drop (length cs) s.queue) none

  idle : made (world s b) (settles (length b) s (release_of src w s) (λ s'. s')) ≡ result (Ok tt) (world s b)
  idle =
      let z : s.len + length (written src w s) ≡ s.len = omega (arith, ap length none_written) in
      moved src w s b (le-ltb (length b) (s.len + length (written src w s)) (omega arith)) ∙ same_done s _ s.len _ s.queue _ b z all_stay (ap (sets b s.len) none_written)

-- a release changes nothing then, refused already or not
pub release_none : (src : List ℕ) (w : Way) (q : List ℕ) (run : Formatter) (b : List ℕ) → going w (queue_of q run.head run.count) ≡ [] → run.len ≤ length b → LetsOut src w q run b run b
unfolding onward
release_none src w q run b none l = record { out = go run.answer; stays = λ _. refl }
  where
    go : (a : Answer) → result a (world (view run q) b) ≡ onward (λ cap s. settles cap s (release_of src w s) (λ s'. s')) (result a (world (view run q) b))
    go (Ok tt) = sym (idle src w (view run q) b none l)
    go (Err e) = refl

-- nothing waits
pub release_idle : (src : List ℕ) (w : Way) (q : List ℕ) (run : Formatter) (b : List ℕ) {n len : ℕ} → n ≡ run.count → n ≡ 0 → len ≡ run.len → len ≤ length b → LetsOut src w q run b run b
unfolding going tab
release_idle src w q run b e h k l = let z : run.count ≡ 0 = sym e ∙ h in release_none src w q run b (rw z) (omega arith)
