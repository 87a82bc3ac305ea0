-- Refusal 5 in collecting: it is given at the record of the comment that would be the 257th to wait. Assumes nothing.
use mathlib.Core.Path.{◌≡◌, refl, sym, ap, ◌∙◌}
use Prim.Native.Nat.{ℕ, zero, suc, ◌+◌, ◌-◌, ◌≤◌}
use native.Mathlib.Nat.{zero-add}
use native.Mathlib.Omega.{arith}
use mathlib.Core.Bool.{Bool, true, false}
use mathlib.Core.List.{List, [], ◌∷◌}
use lib.ListN.{length, take, get_or}
use Rattle.tree.specs.declared.record.RecordNo.{RecordNo}
use Rattle.meaning.specs.declared.call.Call.{Call}
use Rattle.meaning.specs.declared.call.Call.TheVariants.{WriteOwned, WriteRaw, Ignore, Lit, Comments, Indent, Nl, Ws, FlushWhitespace, FlushPrefixComments, Finish}
use Rattle.meaning.specs.declared.answer.Refusal.{Refusal}
use Rattle.meaning.specs.declared.answer.Refusal.TheVariants.{NoRoom, QueueFull, IndentOut, Finished, NoNode}
use Rattle.meaning.specs.State.{Script, Note, Comment, queued, State}
use Rattle.meaning.specs.Pieces.{Piece}
use Rattle.meaning.specs.Outcome.{Outcome, done, refused, refuse_if}
use Rattle.meaning.specs.Collect.{Met, inner, remark, blank, stop, met_from, Collected, full, got, before, collect, on_got, gather, behind}
use Rattle.meaning.specs.Calls.{Shift, deeper, outer, signed, shifted, act, Named, no_node, a_node, named_by, if_there, step}
use Rattle.meaning.specs.Demand3.{notes}

-- from record i on, with room for so many: record j is a comment, and those before it take up the room
pub record FullAt (i room : ℕ) (es : List Met) (j : ℕ) : Type 0 where
  pub passed : ℕ
  pub which : Note
  pub place : j ≡ i + passed
  pub here : get_or es passed stop ≡ remark which
  pub room_taken : length (notes (take passed es)) ≡ room

-- one entry more in front, which takes so much of the room
behind_one : {i j : ℕ} (room more : ℕ) {es : List Met} (e : Met) → ((ds : List Met) → length (notes (e ∷ ds)) ≡ more + length (notes ds)) → FullAt (suc i) room es j → FullAt i (more + room) (e ∷ es) j
behind_one {i} room more {es} e h f = record {
  passed = suc f.passed;
  which = f.which;
  place = omega (arith, f.place);
  here = f.here;
  room_taken = h (take f.passed es) ∙ ap (more +◌) f.room_taken;
}

of_before : (c : Comment) (g : Collected) {j : ℕ} → before c g ≡ full j → g ≡ full j
of_before c (full i) e = e
of_before c (got lines cs) e = let z : ◌≡◌ {A = ℕ} 0 1 = cc in absurd (omega arith)

pub full_at : (i room lines : ℕ) (es : List Met) (j : ℕ) → collect i room lines es ≡ full j → FullAt i room es j
unfolding collect
full_at i room lines [] j e = let z : ◌≡◌ {A = ℕ} 0 1 = cc in absurd (omega arith)
full_at i room lines (inner ∷ es) j e = rw zero-add at (behind_one room 0 inner (λ ds. sym (zero-add _)) (full_at (suc i) room lines es j e))
full_at i zero lines (remark n ∷ es) j e = record { passed = 0; which = n; place = let f : full i ≡ full j = e in let q : i ≡ j = cc in omega arith; here = refl; room_taken = refl }
full_at i (suc room) lines (remark n ∷ es) j e = rw (one_more room) at (behind_one room 1 (remark n) (λ ds. sym (one_more _)) (full_at (suc i) room 0 es j (of_before (queued n lines) _ e)))
  where
    one_more : (k : ℕ) → 1 + k ≡ suc k
    one_more k = omega arith
full_at i room lines (blank n ∷ es) j e = rw zero-add at (behind_one room 0 (blank n) (λ ds. sym (zero-add _)) (full_at (suc i) room _ es j e))
full_at i room lines (stop ∷ es) j e = let z : ◌≡◌ {A = ℕ} 0 1 = cc in absurd (omega arith)

-- with a queue of n that wait
pub the_257th : (x : Script) (i n lines j : ℕ) → n ≤ 256 → collect i (256 - n) lines (met_from x i) ≡ full j
    → (f : FullAt i (256 - n) (met_from x i) j) × (n + length (notes (take f.passed (met_from x i))) ≡ 256)
the_257th x i n lines j h e = let f = full_at i (256 - n) lines (met_from x i) j e in (f, omega (arith, f.room_taken))

-- ---- the same over a call

-- where a call collects from; the others collect nothing
pub collects_from : Script → Call → ℕ
collects_from x (WriteOwned k) = behind x k
collects_from x (WriteRaw k) = behind x k
collects_from x (Ignore k) = behind x k
collects_from x (Lit t) = 0
collects_from x (Comments h) = 0
collects_from x (Indent d) = 0
collects_from x (Nl n) = 0
collects_from x Ws = 0
collects_from x (FlushWhitespace preserve) = 0
collects_from x FlushPrefixComments = 0
collects_from x Finish = 0

-- record j is a comment, and those waiting with those collected from record i up to it are 256
pub record Is257th (x : Script) (n i : ℕ) (j : RecordNo) : Type 0 where
  pub passed : ℕ
  pub which : Note
  pub place : j.0 ≡ i + passed
  pub here : get_or (met_from x i) passed stop ≡ remark which
  pub waiting : n + length (notes (take passed (met_from x i))) ≡ 256

-- P holds of the record wherever the outcome is refusal 5
abbrev OnFull : (RecordNo → Type 0) → Outcome → Type 0
OnFull P o = (j : RecordNo) → o ≡ refused (QueueFull j) → P j

module _ (P : RecordNo → Type 0) where
  full_done : (s : State) (ps : List Piece) → OnFull P (done s ps)
  full_done s ps j e = let z : ◌≡◌ {A = ℕ} 0 1 = cc in absurd (omega arith)

  full_other : (b : Bool) (r : Refusal) (o : Outcome) → OnFull P (refused r) → OnFull P o → OnFull P (refuse_if b r o)
  unfolding refuse_if
  full_other true r o h g = h
  full_other false r o h g = g

  room_short : (n : ℕ) → OnFull P (refused (NoRoom n))
  room_short n j e = let z : ◌≡◌ {A = ℕ} 0 1 = cc in absurd (omega arith)

  indent_out : (n : ℕ) → OnFull P (refused (IndentOut n))
  indent_out n j e = let z : ◌≡◌ {A = ℕ} 0 1 = cc in absurd (omega arith)

  is_finished : (n : ℕ) → OnFull P (refused (Finished n))
  is_finished n j e = let z : ◌≡◌ {A = ℕ} 0 1 = cc in absurd (omega arith)

  not_there : (k : RecordNo) → OnFull P (refused (NoNode k))
  not_there k j e = let z : ◌≡◌ {A = ℕ} 0 1 = cc in absurd (omega arith)

  settled : (b : Bool) (n : ℕ) (s : State) (ps : List Piece) → OnFull P (refuse_if b (NoRoom n) (done s ps))
  settled b n s ps = full_other b _ _ (room_short n) (full_done s ps)

  moved : (s : State) (d : Shift) → OnFull P (shifted s d)
  moved s (deeper d) = full_other _ _ _ (indent_out _) (full_done _ _)
  moved s (outer d) = full_other _ _ _ (indent_out _) (full_done _ _)

module _ (x : Script) (n : ℕ) (fits : n ≤ 256) where
  full_got : (i : ℕ) (next : ℕ → List Comment → Outcome) (g : Collected) → ((j : ℕ) → g ≡ full j → Is257th x n i (record { 0 = j }))
      → ((lines : ℕ) (cs : List Comment) → OnFull (Is257th x n i) (next lines cs)) → OnFull (Is257th x n i) (on_got g next)
  full_got i next (full k) h rest j e =
      let f : refused (QueueFull (record { 0 = k })) ≡ refused (QueueFull j) = e in
      let q : record { 0 = k } ≡ j = cc in
      rw q at (h k refl)
  full_got i next (got lines cs) h rest j e = rest lines cs j e

  of_collect : (i lines j : ℕ) → collect i (256 - n) lines (met_from x i) ≡ full j → Is257th x n i (record { 0 = j })
  of_collect i lines j e =
      let f = the_257th x i n lines j fits e in
      record { passed = f.0.passed; which = f.0.which; place = f.0.place; here = f.0.here; waiting = f.1 }

  gathered : (i : ℕ) (s : State) → length s.queue ≡ n → (next : State → Outcome) → ((s' : State) → OnFull (Is257th x n i) (next s'))
      → OnFull (Is257th x n i) (gather x i s next)
  unfolding gather
  gathered i s q next h = full_got i _ (collect i (256 - length s.queue) s.lines (met_from x i)) (λ j e. of_collect i s.lines j (rw q at e)) (λ lines cs. h _)

  full_act : (cap : ℕ) (s : State) (c : Call) → length s.queue ≡ n → OnFull (Is257th x n (collects_from x c)) (act x cap s c)
  unfolding act collects_from
  full_act cap s (WriteOwned k) q = full_other _ _ _ _ (room_short _ _) (gathered (behind x k) _ q _ (λ s'. full_done _ s' _))
  full_act cap s (WriteRaw k) q = full_other _ _ _ _ (room_short _ _) (gathered (behind x k) _ q _ (λ s'. full_done _ s' _))
  full_act cap s (Ignore k) q = gathered (behind x k) s q _ (λ s'. full_done _ s' _)
  full_act cap s (Lit t) q = settled _ _ _ _ _
  full_act cap s (Comments h) q = settled _ _ _ _ _
  full_act cap s (Indent d) q = moved _ s (signed d)
  full_act cap s (Nl zero) q = full_done _ s _
  full_act cap s (Nl (suc m)) q = settled _ _ _ _ _
  full_act cap s Ws q = settled _ _ _ _ _
  full_act cap s (FlushWhitespace preserve) q = settled _ _ _ _ _
  full_act cap s FlushPrefixComments q = gathered 0 s q _ (λ s'. settled _ _ _ _ _)
  full_act cap s Finish q = settled _ _ _ _ _

  full_there : (k : Named) (o : Outcome) (P : RecordNo → Type 0) → OnFull P o → OnFull P (if_there x k o)
  full_there no_node o P h = h
  full_there (a_node k) o P h = full_other P _ _ _ (not_there P k) h

-- a call is refused by 5 only at the record of the comment that would be the 257th to wait
pub call_257th : (x : Script) (cap : ℕ) (s : State) (c : Call) (j : RecordNo) → length s.queue ≤ 256 → step x cap s c ≡ refused (QueueFull j)
    → Is257th x (length s.queue) (collects_from x c) j
unfolding step
call_257th x cap s c j fits e =
    let P = Is257th x (length s.queue) (collects_from x c) in
    full_other P _ _ _ (is_finished P _) (full_there x _ fits (named_by c) _ P (full_act x _ fits cap s c refl)) j e
