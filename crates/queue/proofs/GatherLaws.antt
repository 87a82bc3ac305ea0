-- Collecting: what each record of the tree does to it, and the loop under way. Assumes nothing.
use Rattle.std.specs.Prelude.{Err}
use Rattle.text.proofs.Base.{◌≡◌, refl, sym, ap, ◌∙◌, List, [], ◌∷◌, ◌++◌, Bool, true, false, cond, ℕ, zero, suc, ◌+◌, ◌-◌, ◌<◌, ◌≤◌, arith}
use Rattle.text.proofs.Base.{length, take, eqb}
use mathlib.Core.List.{append-nil, append_assoc}
use native.Mathlib.Numerals.{add-one}
use lib.ListN.{length-append, length-take, drop_of_length-le}
use lib.Seq.{drop-cons, take-append-le}
use Rattle.text.specs.{Span.text_of, Lines.newlines, declared.span.Span.Span}
use Rattle.tree.specs.{declared.record.Record.Record, Records.cut_record, Table.node_of}
use Rattle.meaning.specs.{declared.answer.Refusal.Refusal, declared.answer.Refusal.TheVariants.QueueFull}
use Rattle.meaning.specs.{State.Script, State.Note, State.Comment, State.queued, State.State}
use Rattle.meaning.specs.{State.with_queue, State.with_lines, Outcome.Outcome, Outcome.refused, Collect.Met, Collect.inner, Collect.remark}
use Rattle.meaning.specs.{Collect.blank, Collect.stop, Collect.met_at, Collect.met_of, Collect.met_from, Collect.Collected, Collect.full}
use Rattle.meaning.specs.{Collect.got, Collect.before, Collect.or_else, Collect.collect, Collect.on_got, Collect.collected, Collect.gather}
use Rattle.lent.specs.{declared.formatter.Formatter.Formatter, Run.answered, Run.collected_run, View.ring_at, View.queue_of, View.view}
use Rattle.queue.specs.{Met.as_met, Parts.Gathered}
use Rattle.queue.specs.{Parts.Collects}
use Rattle.queue.specs.declared.collect.Met as met
use Rattle.lent.proofs.TabLaws.{length_tab, take_tab}

-- ---- what a record is to the collector

pub at_inner : (below kind : ℕ) (span : Span) (n : ℕ) → 0 < below → inner ≡ met_at below kind span n
at_inner zero kind span n h = absurd (omega arith)
at_inner (suc below) kind span n h = refl

pub at_stop : (kind : ℕ) (span : Span) (n : ℕ) → 3 ≤ kind → stop ≡ met_at 0 kind span n
at_stop zero span n h = absurd (omega arith)
at_stop (suc zero) span n h = absurd (omega arith)
at_stop (suc (suc zero)) span n h = absurd (omega arith)
at_stop (suc (suc (suc kind))) span n h = refl

newlines_few : (t : List ℕ) → newlines t ≤ length t
unfolding newlines
newlines_few [] = omega arith
newlines_few (b ∷ bs) = few (eqb b 0x0A) (newlines bs) (length bs) (newlines_few bs)
  where
    few : (t : Bool) (n m : ℕ) → n ≤ m → cond t 1 0 + n ≤ suc m
    few true n m h = omega arith
    few false n m h = omega arith

-- a span is no longer than its end says
pub newlines_fit : (src : List ℕ) (span : Span) → newlines (text_of src span) ≤ span.end.0
newlines_fit src span =
    let l : length (text_of src span) ≤ span.end.0 - span.start.0 = simp length-take (omega arith) in
    omega (arith, newlines_few (text_of src span))

-- ---- the records from i on

module _ (x : Script) (i : ℕ) where
  rest_next : i < length x.tree → met_from x i ≡ met_of x.source (node_of x.tree i) ∷ met_from x (i + 1)
  unfolding node_of
  rest_next h = rw (add-one i, drop-cons x.tree i (cut_record 0) h)

  rest_none : length x.tree ≤ i → met_from x i ≡ []
  rest_none h = rw (drop_of_length-le x.tree h)

-- ---- one turn

abbrev pushed : State → Comment → State
pushed s c = with_lines (with_queue s (s.queue ++ (c ∷ []))) 0

on_before : (s : State) (c : Comment) (k : State → Outcome) (g : Collected) → on_got (before c g) (λ lines cs. k (collected s lines cs)) ≡ on_got g (λ lines cs. k (collected (pushed s c) lines cs))
on_before s c k (full i) = refl
on_before s c k (got lines cs) = ap (λ (q : List Comment). k (with_lines (with_queue s q) lines)) (sym (append_assoc s.queue (c ∷ []) cs))

module _ (x : Script) (i : ℕ) (s : State) (k : State → Outcome) (h : i < length x.tree) where
  go_inner : met_of x.source (node_of x.tree i) ≡ inner → gather x i s k ≡ gather x (i + 1) s k
  unfolding gather collect
  go_inner e = rw (rest_next x i h, e, add-one i)

  go_blank : (n : ℕ) → met_of x.source (node_of x.tree i) ≡ blank n → gather x i s k ≡ gather x (i + 1) (with_lines s (or_else s.lines n)) k
  unfolding gather collect
  go_blank n e = rw (rest_next x i h, e, add-one i)

  go_stop : met_of x.source (node_of x.tree i) ≡ stop → gather x i s k ≡ k s
  unfolding gather collect
  go_stop e = rw (rest_next x i h, e, append-nil)

  go_full : (n : Note) → met_of x.source (node_of x.tree i) ≡ remark n → 256 ≤ length s.queue → gather x i s k ≡ refused (QueueFull (record { 0 = i }))
  unfolding gather collect
  go_full n e l = let z : 256 - length s.queue ≡ 0 = omega arith in rw (rest_next x i h, e, z)

  go_note : (n : Note) → met_of x.source (node_of x.tree i) ≡ remark n → length s.queue < 256 → gather x i s k ≡ gather x (i + 1) (pushed s (queued n s.lines)) k
  unfolding gather collect
  go_note n e l =
      let z : 256 - length s.queue ≡ suc (256 - length (s.queue ++ (queued n s.lines ∷ []))) = omega (arith, length-append s.queue (queued n s.lines ∷ [])) in
      rw (rest_next x i h, e, z, add-one i) (on_before s (queued n s.lines) k (collect (suc i) (256 - length (s.queue ++ (queued n s.lines ∷ []))) 0 (met_from x (suc i))))

go_end : (x : Script) (i : ℕ) (s : State) (k : State → Outcome) → length x.tree ≤ i → gather x i s k ≡ k s
unfolding gather collect
go_end x i s k h = rw (rest_none x i h, append-nil)

-- ---- the loop under way: from `from` on is as much as from i on, with what is in hand

pub record Gathering (x : Script) (from : ℕ) (run : Formatter) (q₀ q : List ℕ) (i lines count : ℕ) : Type 0 where
  pub out : (k : State → Outcome) → gather x from (view run q₀) k ≡ gather x i (view (collected_run run lines count) q) k
  pub kept : queue_of q run.head run.count ≡ queue_of q₀ run.head run.count
  pub more : run.count ≤ count

pub gather_start : {x : Script} {from : ℕ} {run : Formatter} {q₀ : List ℕ} → Gathering x from run q₀ q₀ from run.lines run.count
gather_start = record { out = λ k. refl; kept = refl; more = omega arith }

module _ {x : Script} {from : ℕ} {run : Formatter} {q₀ q : List ℕ} {i lines count : ℕ} (g : Gathering x from run q₀ q i lines count) where
  module _ (r : Record) (e : met.Met) (h : i < length x.tree) (er : r ≡ node_of x.tree i) (ee : as_met r.span e ≡ met_of x.source r) where
    found : {y : Met} → as_met r.span e ≡ y → met_of x.source (node_of x.tree i) ≡ y
    found y = ap (met_of x.source) (sym er) ∙ sym ee ∙ y

    pub gather_inner : as_met r.span e ≡ inner → Gathering x from run q₀ q (i + 1) lines count
    gather_inner y = record { out = λ k. g.out k ∙ go_inner x i _ k h (found y); kept = g.kept; more = g.more }

    pub gather_blank : (n l : ℕ) → as_met r.span e ≡ blank n → l ≡ or_else lines n → Gathering x from run q₀ q (i + 1) l count
    gather_blank n l y el = record { out = λ k. g.out k ∙ rw el (go_blank x i _ k h n (found y)); kept = g.kept; more = g.more }

    pub gather_note : (line : Bool) (q' : List ℕ) → as_met r.span e ≡ remark (record { span = r.span; line = line }) → count < 256
        → queue_of q' run.head (count + 1) ≡ queue_of q run.head count ++ (record { span = r.span; before = lines; line = line } ∷ [])
        → Gathering x from run q₀ q' (i + 1) 0 (count + 1)
    gather_note line q' y l p =
        let n : length (queue_of q run.head count) ≡ count = length_tab (ring_at q) run.head count in
        let m : run.count ≤ count = g.more in
        record {
          out = λ k. g.out k ∙ go_note x i _ k h _ (found y) (omega arith) ∙ ap (λ (c : List Comment). gather x (i + 1) (with_lines (with_queue (view run q) c) 0) k) (sym p);
          kept =
              sym (take_tab (ring_at q') run.head (count + 1) run.count (omega arith))
              ∙ ap (take run.count) p
              ∙ take-append-le run.count (queue_of q run.head count) _ (omega arith)
              ∙ take_tab (ring_at q) run.head count run.count m
              ∙ g.kept;
          more = omega arith;
        }

    pub gather_stop : {o : Formatter} → as_met r.span e ≡ stop → o ≡ collected_run run lines count → Gathered x from run q₀ o q
    gather_stop y eo = rw eo (record { out = λ a k. g.out k ∙ go_stop x i _ k h (found y) ∙ rw a; kept = g.kept; long = refl })

    pub gather_full : {o : Formatter} (line : Bool) → as_met r.span e ≡ remark (record { span = r.span; line = line }) → 256 ≤ count → o ≡ answered run (Err (QueueFull (record { 0 = i }))) → Gathered x from run q₀ o q
    gather_full line y l eo =
        let n : length (queue_of q run.head count) ≡ count = length_tab (ring_at q) run.head count in
        rw eo (record { out = λ a k. g.out k ∙ go_full x i _ k h _ (found y) (omega arith); kept = g.kept; long = refl })

  pub gather_end : {o : Formatter} → length x.tree ≤ i → o ≡ collected_run run lines count → Gathered x from run q₀ o q
  gather_end h eo = rw eo (record { out = λ a k. g.out k ∙ go_end x i _ k h ∙ rw a; kept = g.kept; long = refl })

-- ---- over what is lent

module _ {x : Script} {i lines : ℕ} {run : Formatter} {q q' : List ℕ} {r : Formatter} where
  pub collected_full : {e : Refusal} → r ≡ answered run (Err e) → Gathered x i (collected_run run lines run.count) q (answered (collected_run run lines run.count) (Err e)) q' → Collects x i lines run q true r q'
  collected_full er g = rw er (record {
    gathered = record { out = g.out; kept = g.kept; long = refl };
    told = λ a. refl;
    full = λ h. refl;
    rest = λ h. let z : ◌≡◌ {A = ℕ} 0 1 = cc in absurd (omega arith);
  })

  pub collected_rest : {l n : ℕ} → r ≡ collected_run run l n → Gathered x i (collected_run run lines run.count) q r q' → Collects x i lines run q false r q'
  collected_rest er g = record {
    gathered = g;
    told = λ a. rw (er, a);
    full = λ h. let z : ◌≡◌ {A = ℕ} 0 1 = cc in absurd (omega arith);
    rest = λ h. rw er;
  }
