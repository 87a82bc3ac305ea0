-- The public functions: the table read as the tree, and what is handed back. Assumes nothing.
use Rattle.std.specs.Prelude.{Ok, Err}
use Rattle.text.proofs.Base.{◌≡◌, refl, sym, ap, ◌∙◌, Bool, true, List, ℕ, ◌*◌, arith, length, take}
use mathlib.Core.Option.{Option, some}
use Rattle.tree.specs.{declared.record.RecordNo.RecordNo, Records.records}
use Rattle.opening.specs.{Opening.Opening, Opening.opened}
use Rattle.tree.specs.{declared.record.Record.Record, Table.tree_of, Table.Decoded}
use Rattle.opening.specs.declared.open.Unopened.TheVariants as opening
use Rattle.tree.proofs.Laws.{table_whole}
use Rattle.opening.proofs.Laws.{open_good}
use Rattle.meaning.specs.{declared.call.Call.Call, declared.answer.Refusal.Refusal, Answer.Answer}
use Rattle.meaning.specs.{State.Script, State.State}
use Rattle.meaning.specs.{CallRecord.decode, World.World, World.world, World.Result, World.result}
use Rattle.meaning.specs.{Plan.Plan, Plan.exec, Opening.answer_to, Opening.opening, Opening.script_in}
use Rattle.meaning.proofs.Plans.{sticky}
use Rattle.entry.specs.Room.{Room}
use Rattle.entry.specs.{declared.state.Step.Step, Served.started_run, Served.left_of, Served.Left}
use Rattle.entry.specs.{Served.lent_answer, Served.lent_run, Served.asked_plan, Served.asked_left, Served.Served, Served.call_left, Served.record_left}
use Rattle.entry.specs.declared.state.State as code
use Rattle.lent.specs.{declared.formatter.Formatter.Formatter, Run.is_refused, View.ring_at, View.queue_of, View.slots_of, View.view, View.result_of, View.script_of}
use Rattle.lent.specs.{Loans.engine, Loans.reads, Loans.Makes}
use Rattle.lent.proofs.TabLaws.{length_tab}
use Rattle.entry.proofs.LentLaws.{lent_call, lent_record}

-- ---- the table is the tree, where opening lets it in; else a refusal stands, whatever the script

stuck : (x y : Script) (p q : Plan) (a : Answer) (w : World) (r : Refusal) → a ≡ Err r → exec x p (result a w) ≡ exec y q (result a w)
stuck x y p q a w r e = rw e (sticky x p r w ∙ sym (sticky y q r w))

module _ (src list words table : List ℕ) (n : RecordNo) (d : Decoded list words n.0 table) (room : Room list words) (p : List Record → Plan) where
  -- a plan may hang on the tree; a result whose answer is opening's, or a refusal behind it
  pub either_script : (o : Opening) → opened src list ≡ o → (a : Answer) (w : World) → ((r : Refusal) → answer_to o ≡ Err r → a ≡ Err r)
      → exec (script_of src (take (n.0 * 4) table)) (p (tree_of (take (n.0 * 4) table))) (result a w) ≡ exec (script_in src list) (p (records list)) (result a w)
  either_script (Ok m) e a w h =
      let g = open_good e in
      let k = table_whole d g.tree.few (room g.tree.few) in
      rw k.1
  either_script (Err opening.SourceLong) e a w h = stuck _ _ _ _ a w _ (h _ refl)
  either_script (Err (opening.SourceIll i)) e a w h = stuck _ _ _ _ a w _ (h _ refl)
  either_script (Err (opening.TreeBad i)) e a w h = stuck _ _ _ _ a w _ (h _ refl)
  either_script (Err (opening.TreeDeep i)) e a w h = stuck _ _ _ _ a w _ (h _ refl)

pub lent_refused : (a : Answer) (t4 t5 t6 : Bool) (r : Formatter) (e : Refusal) → a ≡ Err e → lent_answer a t4 t5 t6 r ≡ Err e
lent_refused a t4 t5 t6 r e h = rw h

-- ---- what is handed back

module _ (src list words table : List ℕ) (n : RecordNo) (d : Decoded list words n.0 table) (room : Room list words) (s : code.State) (b : List ℕ) {a₀ : Answer} (ea : a₀ ≡ answer_to (opened src list))
    {r₀ : Formatter} (w : Formatter) (e₀ : r₀ ≡ started_run s.now a₀) (er : w ≡ lent_run src s.queue (length b) r₀) {tb : List ℕ} (et : tb ≡ take (n.0 * 4) table) where
  begun : w ≡ lent_run src s.queue (length b) (started_run s.now a₀)
  begun = er ∙ ap (lent_run src s.queue (length b)) e₀

  still_refused : (e : Refusal) → answer_to (opened src list) ≡ Err e → (lent_run src s.queue (length b) (started_run s.now a₀)).answer ≡ Err e
  unfolding lent_run
  still_refused e h = lent_refused a₀ _ _ _ _ e (ea ∙ h)

  by_plan : {p : Plan} {w' : Formatter} {q' b' : List ℕ} → Makes (script_of src tb) p (engine w s.queue b) (engine w' q' b')
      → result_of w' q' b' ≡ exec (script_in src list) p (result_of (lent_run src s.queue (length b) (started_run s.now a₀)) s.queue b)
  unfolding reads
  by_plan {p} h =
      h.ran.ran
      ∙ rw (et, begun) (either_script src list words table n d room (λ (rs : List Record). p) (opened src list) refl (lent_run src s.queue (length b) (started_run s.now a₀)).answer (world (view (lent_run src s.queue (length b) (started_run s.now a₀)) s.queue) b) still_refused)

  hands_back : (r : Formatter) (q' b' : List ℕ) (res : Result) (z : Step) → result_of r q' b' ≡ res → z ≡ left_of s r.answer (view r q') → Served s z b' res
  hands_back r q' b' res z e ez = record { step = ez ∙ ap (λ (y : Result). left_of s y.answer y.left.state) e; buffer = ap (λ (y : Result). y.left.buffer) e }

  pub serve_asked : (o : Option Call) {w' : Formatter} {q' b' : List ℕ} {z : Step} → Makes (script_of src tb) (asked_plan o) (engine w s.queue b) (engine w' q' b') → Left s w' q' z → Served s z b' (asked_left src list s b o)
  serve_asked o {w'} {q'} {b'} {z} h ez =
      hands_back w' q' b' _ z
      (by_plan h ∙ ap (λ (a : Answer). exec (script_in src list) (asked_plan o) (result_of (lent_run src s.queue (length b) (started_run s.now a)) s.queue b)) ea)
      ez.out

-- behind the checks a call is document 01's call, and a record's its record
module _ (src list : List ℕ) (s : code.State) (b : List ℕ) {z : Step} {b' : List ℕ} where
  pub call_served : (c : Call) → Served s z b' (asked_left src list s b (some c)) → Served s z b' (call_left src list s b c)
  call_served c h = rw (lent_call (script_in src list) (started_run s.now (opening src list)) s.queue b c) at h

  pub record_served : (bytes : List ℕ) {o : Option Call} → o ≡ decode bytes → Served s z b' (asked_left src list s b o) → Served s z b' (record_left src list s b bytes)
  record_served bytes e h = rw (e, lent_record (script_in src list) (started_run s.now (opening src list)) s.queue b bytes) at h

-- ---- what a run and the ring mean for a caller

same_left : (s : code.State) (a : Answer) (t : State) → is_refused a ≡ true → record { answer = a; state = s } ≡ left_of s a t
same_left s (Ok tt) t h = let z : ◌≡◌ {A = ℕ} 0 1 = cc in absurd (omega arith)
same_left s (Err r) t h = refl

pub left_stopped : (s : code.State) (r : Formatter) (q : List ℕ) → is_refused r.answer ≡ true → Left s r q (record { answer = r.answer; state = s })
left_stopped s r q h = record { out = same_left s r.answer (view r q) h }

pub left_open : (s : code.State) (r : Formatter) (q words : List ℕ) → r.answer ≡ Ok tt → words ≡ slots_of (queue_of q r.head r.count)
    → Left s r q (record { answer = r.answer; state = record { now = record { len = r.len; count = r.count; lines = r.lines; use_lines = r.use_lines; ws = r.ws; indent = r.indent; finished = r.finished }; queue = words } })
left_open s r q words h e = record { out = rw (h, e, length_tab (ring_at q) r.head r.count) }
