-- The calls: what the code leaves is what `act` says. Assumes nothing.
use Rattle.std.specs.Prelude.{Ok, Err}
use Rattle.text.proofs.Base.{◌≡◌, refl, sym, ap, ◌∙◌, List, [], ◌∷◌, ◌++◌, Bool, true, false, ℕ, zero, suc, ◌+◌, ◌-◌, ◌<◌, ◌≤◌}
use Rattle.text.proofs.Base.{arith, length, ltb, lt-ltb, le-ltb}
use mathlib.Core.List.{append-nil}
use lib.Seq.{sets}
use Rattle.text.specs.Span.{text_of}
use Rattle.tree.specs.{declared.record.RecordNo.RecordNo}
use Rattle.tree.specs.Cursor as cursor
use Rattle.meaning.specs.{declared.call.Hint.Hint, declared.call.Hint.TheVariants.Line, declared.call.Hint.TheVariants.Prefix}
use Rattle.meaning.specs.{declared.call.Hint.TheVariants.Suffix, declared.call.Hint.TheVariants.Infix, declared.call.Literal.Literal}
use Rattle.meaning.specs.{declared.call.Literal.TheVariants.Braces, declared.call.Literal.TheVariants.Bars}
use Rattle.meaning.specs.{declared.call.Literal.TheVariants.Parens, declared.call.Literal.TheVariants.OpenBrace}
use Rattle.meaning.specs.{declared.call.Literal.TheVariants.CloseBrace, declared.call.Literal.TheVariants.Comma}
use Rattle.meaning.specs.{declared.call.Literal.TheVariants.Semicolon, declared.call.Literal.TheVariants.Colon, declared.call.Call.Call}
use Rattle.meaning.specs.{declared.call.Call.TheVariants.Ignore, declared.call.Call.TheVariants.Lit, declared.call.Call.TheVariants.Comments}
use Rattle.meaning.specs.{declared.call.Call.TheVariants.Indent, declared.call.Call.TheVariants.Nl, declared.call.Call.TheVariants.Ws}
use Rattle.meaning.specs.{declared.call.Call.TheVariants.FlushWhitespace}
use Rattle.meaning.specs.{declared.call.Call.TheVariants.Finish, declared.answer.Refusal.Refusal, declared.answer.Refusal.TheVariants.NoRoom}
use Rattle.meaning.specs.{declared.answer.Refusal.TheVariants.IndentOut, Answer.Answer}
use Rattle.meaning.specs.{State.Script, State.Comment, State.State, State.with_lines}
use Rattle.meaning.specs.{State.with_use_lines, State.with_ws, State.closed, Pieces.Piece, Pieces.gap, Pieces.text, Pieces.flat}
use Rattle.meaning.specs.{Outcome.Outcome, Outcome.done, Outcome.refuse_if, Collect.Collected, Collect.full, Collect.got}
use Rattle.meaning.specs.{Collect.on_got, Collect.or_else, Collect.collect, Collect.collected, Collect.met_from, Collect.gather}
use Rattle.meaning.specs.{Collect.behind, Flush.flush, Flush.flush_gap, Release.line_release, Calls.lit_text, Calls.signed, Calls.act}
use Rattle.meaning.specs.{Calls.no_node, Calls.a_node, Calls.named_by, World.World, World.world, World.capacity}
use Rattle.meaning.specs.{World.result, World.made, Plan.make}
use Rattle.lent.specs.{declared.formatter.Formatter.Formatter, Run.is_refused, Run.answered, Run.moved_run, Run.indented_run, Run.flushed_run}
use Rattle.lent.specs.{declared.room.Gap.Gap}
use Rattle.queue.specs.{declared.release.Way.Way, declared.release.Way.TheVariants.Lines}
use Rattle.lent.specs.{Wording.lit_span, View.queue_of, View.view}
use Rattle.queue.specs.{declared.release.Way.TheVariants.Spaces, Passes.release_of, Passes.way_of}
use Rattle.lent.specs.{View.result_of, View.gap_bytes, View.Laid, Run.Readied, Run.Present, Loans.engine, Loans.reads}
use Rattle.lent.specs.{Loans.Makes}
use Rattle.queue.specs.{Parts.onward, Parts.settles, Parts.LetsOut, Parts.PutText, Parts.on_answer, Parts.Gathered, Parts.Collects}
use Rattle.lent.proofs.WriteLaws.{laid_length}
use Rattle.lent.proofs.StopLaws.{goes}
use Rattle.queue.proofs.StepLaws.{ready_steps, present_call, open_steps, stopped_steps, then_state, then_stopped, then_open, settle_then}

-- the steps of a call, from an engine that is open or refused already
pub record Acted (x : Script) (c : Call) (run : Formatter) (q b : List ℕ) (r : Formatter) (q' b' : List ℕ) : Type 0 where
  pub out : result_of r q' b' ≡ onward (λ cap s. act x cap s c) (result_of run q b)

pub acted_stopped : {x : Script} {c : Call} {run : Formatter} (q : List ℕ) {b : List ℕ} → is_refused run.answer ≡ true → Acted x c run q b run q b
acted_stopped {x} {c} {run} q {b} h = record { out = stopped_steps _ run.answer (world (view run q) b) h }

-- 10, or 10 and 11, in front
module _ {x : Script} {c : Call} {f f' : Formatter} {q b q' b' : List ℕ} {go : Formatter} {t : Bool} where
  pub made_ready : Readied f go t → named_by c ≡ no_node → Acted x c go q b f' q' b' → Makes x (make c) (engine f q b) (engine f' q' b')
  unfolding reads
  made_ready e n a = record { ran = record { ran = a.out ∙ ap (λ (g : Formatter). onward (λ cap s. act x cap s c) (result_of g q b)) e.is ∙ sym (ready_steps x c f q b n) } }

  pub made_present : {k : RecordNo} → Present x.tree k f go t → named_by c ≡ a_node k → Acted x c go q b f' q' b' → Makes x (make c) (engine f q b) (engine f' q' b')
  unfolding reads
  made_present {k} e n a = record { ran = record { ran = a.out ∙ ap (λ (g : Formatter). onward (λ cap s. act x cap s c) (result_of g q b)) e.is ∙ sym (present_call x c f q b k n) } }

-- ---- only the bytes of the pieces count

made_flat : (w : World) (t : Bool) (r : Refusal) (s : State) (ps qs : List Piece) → flat ps ≡ flat qs → made w (refuse_if t r (done s ps)) ≡ made w (refuse_if t r (done s qs))
unfolding refuse_if
made_flat w true r s ps qs e = refl
made_flat w false r s ps qs e = ap (λ (x : List ℕ). result (Ok tt) (world s (sets w.buffer w.state.len x))) e

got_flat : (w : World) (g : Collected) (s : State) (ps qs : List Piece) → flat ps ≡ flat qs
    → made w (on_got g (λ lines cs. done (collected s lines cs) ps)) ≡ made w (on_got g (λ lines cs. done (collected s lines cs) qs))
got_flat w (full i) s ps qs e = refl
got_flat w (got lines cs) s ps qs e = ap (λ (x : List ℕ). result (Ok tt) (world (collected s lines cs) (sets w.buffer w.state.len x))) e

pub gather_flat : (x : Script) (w : World) (i : ℕ) (t : Bool) (r : Refusal) (s : State) (ps qs : List Piece) → flat ps ≡ flat qs
    → made w (refuse_if t r (gather x i s (λ s'. done s' ps))) ≡ made w (refuse_if t r (gather x i s (λ s'. done s' qs)))
unfolding refuse_if gather
gather_flat x w i true r s ps qs e = refl
gather_flat x w i false r s ps qs e = got_flat w (collect i (256 - length s.queue) s.lines (met_from x i)) s ps qs e

-- ---- releases, with a change of the state behind them

comments_are : (x : Script) (a : Answer) (w : World) (h : Hint) → onward (λ cap s. settles cap s (release_of x.source (way_of h) s) (λ s'. s')) (result a w) ≡ onward (λ cap s. act x cap s (Comments h)) (result a w)
unfolding act
comments_are x a w Line = refl
comments_are x a w Prefix = refl
comments_are x a w Suffix = refl
comments_are x a w Infix = refl

pub by_comments : {x : Script} {h : Hint} {way : Way} {q : List ℕ} {run : Formatter} {b : List ℕ} {r : Formatter} {b' : List ℕ} → way ≡ way_of h → LetsOut x.source way q run b r b' → Acted x (Comments h) run q b r q b'
by_comments {x} {h} {way} {q} {run} {b} e g = record { out = g.out ∙ rw e (comments_are x run.answer (world (view run q) b) h) }

abbrev offer : ℕ → State → State
offer n s = with_use_lines (with_lines s (or_else s.lines n)) true

-- a call that is a release and a change f of the state
pub record ByRelease (x : Script) (c : Call) (way : Way) (f : State → State) : Type 0 where
  pub is : (a : Answer) (w : World) → then_state f (onward (λ cap s. settles cap s (release_of x.source way s) (λ s'. s')) (result a w)) ≡ onward (λ cap s. act x cap s c) (result a w)

pub by_nl : (x : Script) (n : ℕ) → (n ≡ 0 → ⊥) → ByRelease x (Nl n) (Lines true) (offer n)
unfolding act
by_nl x zero h = absurd (h refl)
by_nl x (suc n) h = record { is = λ a w. sym (settle_then (line_release x.source true) (offer (suc n)) a w) }

pub by_ws : (x : Script) → ByRelease x Ws (Spaces true false) (λ s. with_ws s true)
unfolding act
by_ws x = record { is = λ a w. sym (settle_then (λ s. release_of x.source (Spaces true false) s) (λ s. with_ws s true) a w) }

pub by_finish : (x : Script) → ByRelease x Finish (Lines false) closed
unfolding act
by_finish x = record { is = λ a w. sym (settle_then (line_release x.source false) closed a w) }

module _ {x : Script} {c : Call} {way : Way} {f : State → State} (by : ByRelease x c way f) {q : List ℕ} {run : Formatter} {b : List ℕ} {r : Formatter} {b' : List ℕ} (h : LetsOut x.source way q run b r b') where
  after : then_state f (result_of r q b') ≡ onward (λ cap s. act x cap s c) (result_of run q b)
  after = ap (then_state f) h.out ∙ by.is run.answer (world (view run q) b)

  pub by_stopped : is_refused r.answer ≡ true → Acted x c run q b r q b'
  by_stopped e = record { out = then_stopped f r.answer (world (view r q) b') e ∙ after }

  pub by_open : {o : Formatter} → r.answer ≡ Ok tt → result_of o q b' ≡ result r.answer (world (f (view r q)) b') → Acted x c run q b o q b'
  by_open e eo = record { out = eo ∙ sym (then_open f r.answer (world (view r q) b') e) ∙ after }

-- nl(0) does nothing
nothing_done : (x : Script) (a : Answer) (w : World) → result a w ≡ onward (λ cap s. act x cap s (Nl 0)) (result a w)
unfolding onward act
nothing_done x (Ok tt) w = refl
nothing_done x (Err r) w = refl

pub nl_nothing : {x : Script} {n : ℕ} {run : Formatter} (q : List ℕ) {b : List ℕ} → n ≡ 0 → Acted x (Nl n) run q b run q b
nl_nothing {x} {n} {run} q {b} h = rw h (record { out = nothing_done x run.answer (world (view run q) b) })

-- ---- a flush and a text

pub put_stopped : {preserve : Bool} {t : List ℕ} {run : Formatter} {b : List ℕ} → is_refused run.answer ≡ true → PutText preserve t run b run b
put_stopped {preserve} {t} {run} {b} h = record { out = λ q. stopped_steps _ run.answer (world (view run q) b) h }

module _ (t : List ℕ) (run : Formatter) (g : Gap) (eg : gap_bytes g ≡ flush_gap (view run [])) where
  put_flat : flush_gap (view run []) ++ (t ++ []) ≡ gap_bytes g ++ t
  put_flat = rw (append-nil, eg)

  put_long : run.len + length (flush_gap (view run []) ++ (t ++ [])) ≡ run.len + (g.lines + g.spaces) + length t
  put_long = let l : length (flush_gap (view run []) ++ (t ++ [])) ≡ g.lines + g.spaces + length t = ap length put_flat ∙ laid_length g t in omega arith

  module _ (open-yet : run.answer ≡ Ok tt) {preserve : Bool} {b : List ℕ} where
    pub put_past : {o : Formatter} → ltb (length b) (run.len + (g.lines + g.spaces) + length t) ≡ true → o ≡ answered run (Err (NoRoom run.len)) → PutText preserve t run b o b
    unfolding refuse_if
    put_past h e = record { out = λ q. rw e (sym (open_steps _ run.answer (world (view run q) b) open-yet ∙ rw (put_long, h))) }

    pub put_done : {o f : Formatter} {to : ℕ} {b' : List ℕ} → ltb (length b) (run.len + (g.lines + g.spaces) + length t) ≡ false → f ≡ flushed_run preserve run → o ≡ moved_run f to → Laid b run.len g t to b' → PutText preserve t run b o b'
    unfolding refuse_if flushed_run
    put_done h ef e l = record { out = λ q. rw (e, ef, l.end) (sym (open_steps _ run.answer (world (view run q) b) open-yet ∙ rw (put_long, h, put_flat, ← l.bytes, open-yet))) }

abbrev literals : List ℕ
literals = 0x7B ∷ 0x7D ∷ 0x7C ∷ 0x7C ∷ 0x28 ∷ 0x29 ∷ 0x7B ∷ 0x7D ∷ 0x2C ∷ 0x3B ∷ 0x3A ∷ []

lit_text_lem : (l : Literal) → text_of literals (lit_span l) ≡ lit_text l
lit_text_lem Braces = refl
lit_text_lem Bars = refl
lit_text_lem Parens = refl
lit_text_lem OpenBrace = refl
lit_text_lem CloseBrace = refl
lit_text_lem Comma = refl
lit_text_lem Semicolon = refl
lit_text_lem Colon = refl

pub lit_is : {x : Script} {l : Literal} (q : List ℕ) {t : List ℕ} {run r : Formatter} {b b' : List ℕ} → t ≡ text_of literals (lit_span l) → PutText true t run b r b' → Acted x (Lit l) run q b r q b'
unfolding act
lit_is {x} {l} q {t} {run} {r} {b} et p = record { out = p.out q ∙ ap (λ (z : List ℕ). onward (λ cap s. settles cap s (flush true s (text z ∷ [])) (λ s'. s')) (result_of run q b)) (et ∙ lit_text_lem l) }

no_text : (x : Script) (preserve : Bool) (a : Answer) (w : World) → onward (λ cap s. settles cap s (flush preserve s (text [] ∷ [])) (λ s'. s')) (result a w) ≡ onward (λ cap s. act x cap s (FlushWhitespace preserve)) (result a w)
unfolding onward act
no_text x preserve (Ok tt) w = made_flat w (ltb (capacity w) (w.state.len + length (flush_gap w.state ++ []))) (NoRoom w.state.len) (flush preserve w.state []).state (gap (flush_gap w.state) ∷ text [] ∷ []) (gap (flush_gap w.state) ∷ []) refl
no_text x preserve (Err r) w = refl

pub flush_is : {x : Script} (q : List ℕ) {preserve : Bool} {t : List ℕ} {run r : Formatter} {b b' : List ℕ} → t ≡ [] → PutText preserve t run b r b' → Acted x (FlushWhitespace preserve) run q b r q b'
flush_is {x} q {preserve} {t} {run} {r} {b} et p = record {
  out =
      p.out q ∙ ap (λ (z : List ℕ). onward (λ cap s. settles cap s (flush preserve s (text z ∷ [])) (λ s'. s')) (result_of run q b)) et ∙ no_text x preserve run.answer (world (view run q) b);
}

-- ---- indent

module _ {x : Script} (q : List ℕ) {run : Formatter} {b : List ℕ} {d : ℕ} (open-yet : run.answer ≡ Ok tt) where
  pub indent_over : {o : Formatter} → d < 0x80 → 64 < run.indent + d → o ≡ answered run (Err (IndentOut run.indent)) → Acted x (Indent d) run q b o q b
  unfolding act signed refuse_if
  indent_over h l e = record { out = rw e (sym (open_steps _ run.answer (world (view run q) b) open-yet ∙ rw (lt-ltb d 0x80 h, lt-ltb 64 (run.indent + d) l))) }

  pub indent_up : {o : Formatter} → d < 0x80 → run.indent + d ≤ 64 → o ≡ indented_run run (run.indent + d) → Acted x (Indent d) run q b o q b
  unfolding act signed refuse_if
  indent_up h l e = record { out = rw e (sym (open_steps _ run.answer (world (view run q) b) open-yet ∙ rw (lt-ltb d 0x80 h, le-ltb 64 (run.indent + d) l, open-yet))) }

  pub indent_under : {o : Formatter} → 0x80 ≤ d → run.indent < 0x100 - d → o ≡ answered run (Err (IndentOut run.indent)) → Acted x (Indent d) run q b o q b
  unfolding act signed refuse_if
  indent_under h l e = record { out = rw e (sym (open_steps _ run.answer (world (view run q) b) open-yet ∙ rw (le-ltb d 0x80 h, lt-ltb run.indent (0x100 - d) l))) }

  pub indent_down : {o : Formatter} → 0x80 ≤ d → 0x100 - d ≤ run.indent → o ≡ indented_run run (run.indent - (0x100 - d)) → Acted x (Indent d) run q b o q b
  unfolding act signed refuse_if
  indent_down h l e = record { out = rw e (sym (open_steps _ run.answer (world (view run q) b) open-yet ∙ rw (le-ltb d 0x80 h, le-ltb run.indent (0x100 - d) l, open-yet))) }

-- ---- collecting

-- the state that was, on the ring as it is now
pub waiting : (run : Formatter) (q q' : List ℕ) → queue_of q' run.head run.count ≡ queue_of q run.head run.count → view run q' ≡ view run q
waiting run q q' e = ap (λ (x : List Comment). record { len = run.len; queue = x; lines = run.lines; use_lines = run.use_lines; ws = run.ws; indent = run.indent; finished = run.finished }) e

-- where the code starts to collect behind node k
pub behind_is : (x : Script) (k : RecordNo) (s : State) (next : State → Outcome) → gather x (cursor.behind x.tree k.0) s next ≡ gather x (behind x k) s next
behind_is x k s next = refl

refused_made : (a : Answer) (w : World) (o : Outcome) → is_refused a ≡ true → made w (on_answer a o) ≡ result a w
refused_made (Ok tt) w o h = let z : ◌≡◌ {A = ℕ} 0 1 = cc in absurd (omega arith)
refused_made (Err e) w o h = refl

-- refused while it collected: the run as it was, on the ring as it is now
pub left_as : {x : Script} {i : ℕ} {f : Formatter} (run : Formatter) {r : Formatter} {q q' : List ℕ} (b : List ℕ) (o : Outcome) → Gathered x i f q r q' → f.head ≡ run.head → f.count ≡ run.count → is_refused r.answer ≡ true
    → result_of (answered run r.answer) q' b ≡ made (world (view run q) b) (on_answer r.answer o)
left_as {x} {i} {f} run {r} {q} {q'} b o g eh ec h =
    ap (λ (s : State). result r.answer (world s b)) (waiting run q q' (rw (eh, ec) at g.kept)) ∙ sym (refused_made r.answer (world (view run q) b) o h)

-- ---- ignore

module _ (x : Script) (k : RecordNo) (run r : Formatter) (q q' b : List ℕ) (i : ℕ) (ei : i ≡ cursor.behind x.tree k.0) (g : Gathered x i run q r q') (open-yet : run.answer ≡ Ok tt) where
  ignored : onward (λ cap s. act x cap s (Ignore k)) (result_of run q b) ≡ made (world (view run q) b) (on_answer r.answer (done (view r q') []))
  unfolding act
  ignored = open_steps _ run.answer (world (view run q) b) open-yet ∙ ap (made (world (view run q) b)) (sym (behind_is x k (view run q) (λ s'. done s' [])) ∙ ap (λ (j : ℕ). gather x j (view run q) (λ s'. done s' [])) (sym ei) ∙ g.out open-yet (λ s'. done s' []))

  pub ignore_full : {o : Formatter} → is_refused r.answer ≡ true → o ≡ answered run r.answer → Acted x (Ignore k) run q b o q' b
  ignore_full h e = record { out = rw e (left_as run b (done (view r q') []) g refl refl h) ∙ sym ignored }

  pub ignore_done : r.answer ≡ Ok tt → Acted x (Ignore k) run q b r q' b
  ignore_done h = record { out = rw h (sym (ignored ∙ rw h)) }

-- collecting with the newlines that the state has
pub as_it_is : {x : Script} {i l : ℕ} {run : Formatter} {q : List ℕ} {stop : Bool} {r : Formatter} {q' : List ℕ} → l ≡ run.lines → Collects x i l run q stop r q' → Gathered x i run q r q'
as_it_is e c = rw e at c.gathered

pub ignore_is : (x : Script) (k : RecordNo) {run r : Formatter} {q q' : List ℕ} (b : List ℕ) {i l : ℕ} (stop : Bool) → run.answer ≡ Ok tt → i ≡ cursor.behind x.tree k.0 → l ≡ run.lines → Collects x i l run q stop r q' → Acted x (Ignore k) run q b r q' b
ignore_is x k b true a ei el c = ignore_full x k _ _ _ _ b _ ei (as_it_is el c) a (sym (c.told a)) (c.full refl)
ignore_is x k b false a ei el c = ignore_done x k _ _ _ _ b _ ei (as_it_is el c) a (goes (c.told a) refl)
