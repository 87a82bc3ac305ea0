-- The calls that write and collect, or collect and write. Assumes nothing.
use Rattle.std.specs.Prelude.{Ok, Err}
use Rattle.text.proofs.Base.{◌≡◌, refl, sym, ap, ◌∙◌, List, [], ◌∷◌, ◌++◌, Bool, true, false, ℕ, ◌+◌, arith, length, ltb}
use mathlib.Core.List.{append-nil}
use lib.Seq.{sets, length-sets}
use Rattle.text.specs.Span.{text_of}
use Rattle.tree.specs.{declared.record.Record.Record, declared.record.RecordNo.RecordNo, Table.node_of}
use Rattle.tree.specs.Cursor as cursor
use Rattle.meaning.specs.{declared.call.Call.TheVariants.WriteOwned, declared.call.Call.TheVariants.WriteRaw}
use Rattle.meaning.specs.{declared.call.Call.TheVariants.FlushPrefixComments, declared.answer.Refusal.TheVariants.NoRoom}
use Rattle.meaning.specs.{State.Script, State.State, State.with_len, State.with_use_lines, Pieces.Piece, Pieces.gap, Pieces.text}
use Rattle.meaning.specs.{Pieces.flat, Pieces.emit, Outcome.Outcome, Outcome.done, Outcome.refuse_if, Collect.gather}
use Rattle.meaning.specs.{Collect.node_text, Collect.behind, Flush.flush_gap, Release.line_release, Calls.act, Calls.write_node, World.world}
use Rattle.meaning.specs.{World.Result, World.result, World.made}
use Rattle.lent.specs.{declared.formatter.Formatter.Formatter, Run.is_refused, Run.answered, Run.moved_run, Run.hinted_run, Run.collected_run, Run.flushed_run, declared.room.Gap.Gap}
use Rattle.lent.specs.{View.view, View.result_of, View.gap_bytes, View.Laid}
use Rattle.queue.specs.{declared.release.Way.TheVariants.Lines, Parts.onward}
use Rattle.queue.specs.{Parts.settles, Parts.LetsOut, Parts.on_answer, Parts.Gathered, Parts.Collects, Parts.Beside, Parts.WroteNode}
use Rattle.lent.proofs.{WriteLaws.laid_length, StopLaws.goes}
use Rattle.queue.proofs.{StepLaws.open_steps}
use Rattle.calls.proofs.CallLaws.{Acted, gather_flat, behind_is, left_as, waiting, as_it_is}

-- ---- a node's text, and then what stands behind it

module _ (x : Script) (k : RecordNo) (g : Gap) (next run : Formatter) (q b : List ℕ) (d : Record) (t : List ℕ) (ed : d ≡ node_of x.tree k.0) (et : t ≡ text_of x.source d.span) where
  text_is : node_text x k ≡ t
  unfolding node_of
  text_is = sym (et ∙ ap (λ (r : Record). text_of x.source r.span) ed)

  pieces : List Piece
  pieces = gap (gap_bytes g) ∷ text (node_text x k) ∷ []

  flat_is : flat pieces ≡ gap_bytes g ++ t
  unfolding pieces
  flat_is = rw (append-nil, text_is)

  long_is : next.len ≡ run.len → next.len + length (flat pieces) ≡ run.len + (g.lines + g.spaces) + length t
  long_is e = let l : length (flat pieces) ≡ g.lines + g.spaces + length t = ap length flat_is ∙ laid_length g t in omega arith

  -- what the meaning does, in the code's numbers
  node_is : Beside run next → made (world (view run q) b) (write_node x (length b) k (view run q) (emit (view next q) pieces))
      ≡ made (world (view run q) b) (refuse_if (ltb (length b) (run.len + (g.lines + g.spaces) + length t)) (NoRoom run.len) (gather x (cursor.behind x.tree k.0) (view (moved_run next (run.len + (g.lines + g.spaces) + length t)) q) (λ s. done s pieces)))
  node_is s = rw (long_is s.len, behind_is x k (view (moved_run next (run.len + (g.lines + g.spaces) + length t)) q) (λ s. done s pieces))

  pub node_past : {o : Formatter} → ltb (length b) (run.len + (g.lines + g.spaces) + length t) ≡ true → o ≡ answered run (Err (NoRoom run.len)) → WroteNode x k g next run q b o q b
  unfolding pieces refuse_if
  node_past h e = record { out = λ a s. rw e (sym (node_is s ∙ rw h)); long = refl }

  module _ (m r : Formatter) (q' : List ℕ) (i : ℕ) (em : m ≡ moved_run (answered next (Ok tt)) (run.len + (g.lines + g.spaces) + length t)) (ei : i ≡ cursor.behind x.tree k.0) (c : Gathered x i m q r q') (fits : ltb (length b) (run.len + (g.lines + g.spaces) + length t) ≡ false) where
    node_goes : run.answer ≡ Ok tt → Beside run next → made (world (view run q) b) (write_node x (length b) k (view run q) (emit (view next q) pieces)) ≡ made (world (view run q) b) (on_answer r.answer (done (view r q') pieces))
    unfolding refuse_if
    node_goes a s =
        node_is s
        ∙ rw fits (ap (made (world (view run q) b))
        (ap (λ (z : Formatter). gather x (cursor.behind x.tree k.0) (view z q) (λ s'. done s' pieces)) (sym em)
        ∙ ap (λ (j : ℕ). gather x j (view m q) (λ s'. done s' pieces)) (sym ei)
        ∙ c.out (ap (λ (z : Formatter). z.answer) em) (λ s'. done s' pieces)))

    pub node_full : {o : Formatter} → is_refused r.answer ≡ true → o ≡ answered run r.answer → WroteNode x k g next run q b o q' b
    unfolding pieces
    node_full h e = record { out = λ a s. rw e (left_as run b (done (view r q') pieces) c (ap (λ (z : Formatter). z.head) em ∙ s.head) (ap (λ (z : Formatter). z.count) em ∙ s.count) h) ∙ sym (node_goes a s); long = refl }

    pub node_done : {b' : List ℕ} → r.answer ≡ Ok tt → b' ≡ sets b run.len (gap_bytes g ++ t) → length b' ≡ length b → WroteNode x k g next run q b r q' b'
    unfolding pieces
    node_done h e l = record { out = λ a s. sym (node_goes a s ∙ rw (h, flat_is, ← e)); long = l }

-- ---- write_owned, write_raw

owned_is : {x : Script} {k : RecordNo} {g : Gap} {run : Formatter} {q b : List ℕ} {r : Formatter} {q' b' : List ℕ} → run.answer ≡ Ok tt → gap_bytes g ≡ flush_gap (view run [])
    → WroteNode x k g (hinted_run run 0 false false) run q b r q' b' → Acted x (WriteOwned k) run q b r q' b'
unfolding act flushed_run
owned_is {x} {k} {g} {run} {q} {b} a eg w = record {
  out =
      w.out a (record { answer = refl; len = refl; head = refl; count = refl })
      ∙ sym (open_steps _ run.answer (world (view run q) b) a ∙ rw eg);
}

raw_is : {x : Script} {k : RecordNo} {g : Gap} {run : Formatter} {q b : List ℕ} {r : Formatter} {q' b' : List ℕ} → run.answer ≡ Ok tt → gap_bytes g ≡ [] → WroteNode x k g run run q b r q' b' → Acted x (WriteRaw k) run q b r q' b'
unfolding act
raw_is {x} {k} {g} {run} {q} {b} a eg w = record {
  out =
      w.out a (record { answer = refl; len = refl; head = refl; count = refl })
      ∙ rw eg (gather_flat x (world (view run q) b) (behind x k) (ltb (length b) (run.len + length (node_text x k ++ []))) (NoRoom run.len) (with_len (view run q) (run.len + length (node_text x k ++ []))) (gap [] ∷ text (node_text x k) ∷ []) (text (node_text x k) ∷ []) refl)
      ∙ sym (open_steps _ run.answer (world (view run q) b) a);
}

-- ---- the length and the hints are not looked at while it collects

abbrev after : ℕ → Bool → Bool → State → State
after n use_lines ws s = record { len = n; queue = s.queue; lines = s.lines; use_lines = use_lines; ws = ws; indent = s.indent; finished = s.finished }

gather_after : (x : Script) (i n : ℕ) (u v : Bool) (s : State) (k : State → Outcome) → gather x i (after n u v s) k ≡ gather x i s (λ s'. k (after n u v s'))
unfolding gather
gather_after x i n u v s k = refl

-- so with other hints, and another length, it collects the same
gathered_after : {x : Script} {i l : ℕ} (run : Formatter) {q : List ℕ} {r : Formatter} {q' : List ℕ} (n : ℕ) (u v : Bool) → run.answer ≡ Ok tt → Gathered x i (collected_run run l run.count) q r q'
    → Gathered x i (moved_run (answered (hinted_run run l u v) (Ok tt)) n) q (hinted_run (moved_run r n) r.lines u v) q'
gathered_after {x} {i} {l} run {q} n u v a g = record {
  out = λ d k. gather_after x i n u v (view (collected_run run l run.count) q) k ∙ g.out a (λ s. k (after n u v s));
  kept = g.kept;
  long = refl;
}

-- a write that leaves these hints: what the code found, and what it left
module _ (x : Script) (k : RecordNo) (g : Gap) (run : Formatter) (q b : List ℕ) (d : Record) (t : List ℕ) (open-yet : run.answer ≡ Ok tt) (ed : d ≡ node_of x.tree k.0) (et : t ≡ text_of x.source d.span) where
  module _ (l : ℕ) (u v : Bool) {i : ℕ} {stop : Bool} {r : Formatter} {q' : List ℕ} (ei : i ≡ cursor.behind x.tree k.0) (c : Collects x i l run q stop r q') (fits : ltb (length b) (run.len + (g.lines + g.spaces) + length t) ≡ false) where
    wrote_full : stop ≡ true → WroteNode x k g (hinted_run run l u v) run q b r q' b
    wrote_full h = node_full x k g (hinted_run run l u v) run q b d t ed et _ _ q' i refl ei (gathered_after run _ u v open-yet c.gathered) fits (sym (c.told open-yet) ∙ h) (c.full h)

    wrote_done : {o : Formatter} {to : ℕ} {b' : List ℕ} → stop ≡ false → Laid b run.len g t to b' → o ≡ hinted_run (moved_run r to) r.lines u v → WroteNode x k g (hinted_run run l u v) run q b o q' b'
    wrote_done h eb eo =
        rw (eo, eb.end) (node_done x k g (hinted_run run l u v) run q b d t ed et _ _ q' i refl ei (gathered_after run _ u v open-yet c.gathered) fits (goes (c.told open-yet) h) eb.bytes (ap length eb.bytes ∙ length-sets b run.len (gap_bytes g ++ t)))

  -- the white space that is due goes with it
  module _ (eg : gap_bytes g ≡ flush_gap (view run [])) where
    pub owned_past : {o : Formatter} → ltb (length b) (run.len + (g.lines + g.spaces) + length t) ≡ true → o ≡ answered run (Err (NoRoom run.len)) → Acted x (WriteOwned k) run q b o q b
    owned_past h e = owned_is open-yet eg (node_past x k g (hinted_run run 0 false false) run q b d t ed et h e)

    module _ {i : ℕ} {stop : Bool} {r : Formatter} {q' : List ℕ} (ei : i ≡ cursor.behind x.tree k.0) (c : Collects x i 0 run q stop r q') (fits : ltb (length b) (run.len + (g.lines + g.spaces) + length t) ≡ false) where
      pub owned_full : stop ≡ true → Acted x (WriteOwned k) run q b r q' b
      owned_full h = owned_is open-yet eg (wrote_full 0 false false ei c fits h)

      pub owned_done : {o : Formatter} {to : ℕ} {b' : List ℕ} → stop ≡ false → Laid b run.len g t to b' → o ≡ hinted_run (moved_run r to) r.lines false false → Acted x (WriteOwned k) run q b o q' b'
      owned_done h eb eo = owned_is open-yet eg (wrote_done 0 false false ei c fits h eb eo)

  -- the hints stay
  module _ (eg : gap_bytes g ≡ []) where
    pub raw_past : {o : Formatter} → ltb (length b) (run.len + (g.lines + g.spaces) + length t) ≡ true → o ≡ answered run (Err (NoRoom run.len)) → Acted x (WriteRaw k) run q b o q b
    raw_past h e = raw_is open-yet eg (node_past x k g run run q b d t ed et h e)

    module _ {i l : ℕ} {stop : Bool} {r : Formatter} {q' : List ℕ} (ei : i ≡ cursor.behind x.tree k.0) (el : l ≡ run.lines) (c : Collects x i l run q stop r q') (fits : ltb (length b) (run.len + (g.lines + g.spaces) + length t) ≡ false) where
      here : Collects x i run.lines run q stop r q'
      here = rw el at c

      pub raw_full : stop ≡ true → Acted x (WriteRaw k) run q b r q' b
      raw_full h = raw_is open-yet eg (wrote_full run.lines run.use_lines run.ws ei here fits h)

      pub raw_done : {o : Formatter} {to : ℕ} {b' : List ℕ} → stop ≡ false → Laid b run.len g t to b' → o ≡ moved_run r to → Acted x (WriteRaw k) run q b o q' b'
      raw_done {o} {to} h eb eo = raw_is open-yet eg (wrote_done run.lines run.use_lines run.ws ei here fits h eb (eo ∙ rw (here.rest h)))

-- ---- flush_prefix_comments

abbrev prefixed : State → State
prefixed s = with_use_lines s (ltb 0 s.lines)

module _ (n : ℕ) (s s₁ u : State) (b : List ℕ) (ps : List Piece) (r : Formatter) (q' b' : List ℕ) (en : s₁.len ≡ s.len) where
  past_at : (t : Bool) → result_of r q' b' ≡ made (world s₁ b) (refuse_if t (NoRoom s₁.len) (done u ps)) → is_refused r.answer ≡ true → result r.answer (world s b') ≡ made (world s b) (refuse_if t (NoRoom s.len) (done (prefixed u) ps))
  unfolding refuse_if
  past_at true e h =
      let y : r.answer ≡ Err (NoRoom s₁.len) = ap (λ (z : Result). z.answer) e in
      let z : b' ≡ b = ap (λ (z : Result). z.left.buffer) e in
      rw (y, z, en)
  past_at false e h = let y : r.answer ≡ Ok tt = ap (λ (z : Result). z.answer) e in let z : ◌≡◌ {A = Bool} false true = sym (ap is_refused y) ∙ h in let v : ◌≡◌ {A = ℕ} 0 1 = cc in absurd (omega arith)

  done_at : (t : Bool) → result_of r q' b' ≡ made (world s₁ b) (refuse_if t (NoRoom s₁.len) (done u ps)) → r.answer ≡ Ok tt → result r.answer (world (prefixed (view r q')) b') ≡ made (world s b) (refuse_if t (NoRoom s.len) (done (prefixed u) ps))
  unfolding refuse_if
  done_at true e h = let y : Err (NoRoom s₁.len) ≡ Ok tt = sym (ap (λ (z : Result). z.answer) e) ∙ h in let v : ◌≡◌ {A = ℕ} 0 1 = cc in absurd (omega arith)
  done_at false e h =
      let y : view r q' ≡ u = ap (λ (z : Result). z.left.state) e in
      let z : b' ≡ sets b s.len (flat ps) = ap (λ (z : Result). z.left.buffer) e ∙ rw en in
      rw (h, z) (ap (λ (v : State). result (Ok tt) (world (prefixed v) (sets b s.len (flat ps)))) y)

module _ (x : Script) {run : Formatter} {q : List ℕ} (b : List ℕ) {g : Formatter} {q' : List ℕ} {l : ℕ} {stop : Bool} (open-yet : run.answer ≡ Ok tt) (el : l ≡ run.lines) (d : Collects x 0 l run q stop g q') where
  c : Gathered x 0 run q g q'
  c = as_it_is el d

  prefix_is : onward (λ cap s. act x cap s FlushPrefixComments) (result_of run q b) ≡ made (world (view run q) b) (on_answer g.answer (settles (length b) (view run q) (line_release x.source false (view g q')) prefixed))
  unfolding act
  prefix_is = open_steps _ run.answer (world (view run q) b) open-yet ∙ ap (made (world (view run q) b)) (c.out open-yet (λ s₁. settles (length b) (view run q) (line_release x.source false s₁) prefixed))

  pub prefix_full : stop ≡ true → Acted x FlushPrefixComments run q b g q' b
  prefix_full h = record { out = rw (d.full h) (left_as run b _ c refl refl (sym (d.told open-yet) ∙ h)) ∙ sym prefix_is }

  module _ (going : stop ≡ false) {r : Formatter} {b' : List ℕ} (e : LetsOut x.source (Lines false) q' g b r b') where
    gathered : g.answer ≡ Ok tt
    gathered = goes (d.told open-yet) going

    let_out : result_of r q' b' ≡ made (world (view g q') b) (settles (length b) (view g q') (line_release x.source false (view g q')) (λ s. s))
    let_out = e.out ∙ open_steps _ g.answer (world (view g q') b) gathered

    then_release : made (world (view run q) b) (settles (length b) (view run q) (line_release x.source false (view g q')) prefixed) ≡ onward (λ cap s. act x cap s FlushPrefixComments) (result_of run q b)
    then_release = sym (prefix_is ∙ rw gathered)

    -- what was collected is taken back
    back : is_refused r.answer ≡ true → collected_run r run.lines run.count ≡ answered run r.answer
    back h = rw (e.stays h, d.rest going)

    pub prefix_past : {o : Formatter} {n : ℕ} → is_refused r.answer ≡ true → n ≡ run.count → o ≡ collected_run r l n → Acted x FlushPrefixComments run q b o q' b'
    prefix_past {n = n} h en eo = record {
      out =
          rw (eo ∙ ap (λ (k : ℕ). collected_run r k n) el ∙ ap (collected_run r run.lines) en ∙ back h) (ap (λ (s : State). result r.answer (world s b')) (waiting run q q' c.kept))
          ∙ past_at 0 (view run q) (view g q') (line_release x.source false (view g q')).state b (line_release x.source false (view g q')).out r q' b' c.long (ltb (length b) (line_release x.source false (view g q')).state.len) let_out h
          ∙ then_release;
    }

    pub prefix_done : {o : Formatter} {l : Bool} → r.answer ≡ Ok tt → l ≡ ltb 0 r.lines → o ≡ hinted_run r r.lines l r.ws → Acted x FlushPrefixComments run q b o q' b'
    prefix_done h el eo = record {
      out =
          rw (eo, el) (done_at 0 (view run q) (view g q') (line_release x.source false (view g q')).state b (line_release x.source false (view g q')).out r q' b' c.long (ltb (length b) (line_release x.source false (view g q')).state.len) let_out h)
          ∙ then_release;
    }
