-- What one call does, of which the theorems on histories are made. Assumes nothing.
use mathlib.Core.Path.{◌≡◌, refl, sym, ap, ◌∙◌}
use mathlib.Core.Logic.{◌⊎◌, inl, inr}
use Prim.Native.Nat.{ℕ, zero, suc, ◌+◌, ◌-◌, ◌≤◌}
use native.Mathlib.Nat.{add-zero}
use native.Mathlib.Omega.{arith}
use mathlib.Core.Bool.{Bool, true, false, true≢false}
use mathlib.Core.List.{List, [], ◌∷◌, ◌++◌, map, append-nil}
use lib.ListN.{length, length-append, length-map}
use borrow.Author.Tests.{ltb-false}
use Rattle.encoding.specs.Utf8.{Well, formed}
use Rattle.tree.specs.declared.record.RecordNo.{RecordNo}
use Rattle.meaning.specs.declared.call.Hint.{Hint}
use Rattle.meaning.specs.declared.call.Hint.TheVariants.{Line, Prefix, Suffix, Infix}
use Rattle.meaning.specs.declared.call.Call.{Call}
use Rattle.meaning.specs.declared.call.Call.TheVariants.{WriteOwned, WriteRaw, Ignore, Lit, Comments, Indent, Nl, Ws, FlushWhitespace, FlushPrefixComments, Finish}
use Rattle.meaning.specs.State.{Script, Comment, note_of, State}
use Rattle.meaning.specs.Pieces.{Piece, text, flat, Emit, emit}
use Rattle.meaning.specs.Outcome.{Outcome, done}
use Rattle.meaning.specs.Collect.{collected, node_text, behind}
use Rattle.meaning.specs.Flush.{flush}
use Rattle.meaning.specs.Release.{take_until, stop_line, stop_space, line_release, space_release, hinted}
use Rattle.meaning.specs.Calls.{Shift, deeper, outer, signed, shifted, write_node, act, Named, no_node, a_node, named_by, if_there, step}
use Rattle.meaning.specs.Demand3.{SpansInside, notes_from, collects, writes}
use Rattle.meaning.proofs.Laws.{map_append, texts, freed, texts_append, freed_append, split_notes, none_left, line_freed, line_texts, space_freed, space_texts, OnDone, is_done, of_done, on_refuse, on_any, Are, on_gather}
use Rattle.meaning.proofs.Clean.{AllClean, no_piece, a_piece, clean_append, Inside, clean_flush, clean_behind, clean_lit, clean_line, clean_space, clean_node}

-- from s by the call c to s', having written ps
pub record Fair (x : Script) (cap : ℕ) (s : State) (c : Call) (s' : State) (ps : List Piece) : Type 0 where
  -- comments let out, then those waiting, are those that waited, then those collected
  pub moved : freed ps ++ map note_of s'.queue ≡ map note_of s.queue ++ collects x c
  pub wrote : texts ps ≡ writes x c
  -- no call both writes a text and lets comments out
  pub apart : (freed ps ≡ []) ⊎ (texts ps ≡ [])
  pub grew : s'.len ≡ s.len + length (flat ps)
  pub emptied : s'.finished ≡ true → s'.queue ≡ []
  pub fits : s.len ≤ cap → s'.len ≤ cap
  pub room : length s.queue ≤ 256 → length s'.queue ≤ 256
  pub level : s.indent ≤ 64 → s'.indent ≤ 64
  pub clean : formed x.source ≡ Well → SpansInside x.source x.tree → Inside x.source (freed ps) → AllClean x.source ps

-- ---- releases

-- what is let out and what waits are what waited; n is the length behind it
record Freed (src : List ℕ) (s : State) (q : List Comment) (n : ℕ) (ps : List Piece) : Type 0 where
  all : freed ps ++ map note_of q ≡ map note_of s.queue
  no_text : texts ps ≡ []
  longer : n ≡ s.len + length (flat ps)
  tidy : formed src ≡ Well → Inside src (freed ps) → AllClean src ps

abbrev Frees : List ℕ → State → Emit → Type 0
Frees src s e = Freed src s e.state.queue e.state.len e.out

freed_line : (src : List ℕ) (sameLine : Bool) (s : State) → Frees src s (line_release src sameLine s)
freed_line src sameLine s = record {
  all = rw line_freed (split_notes (stop_line sameLine) s.queue);
  no_text = line_texts src _ _ _;
  longer = refl;
  tidy = λ w h. clean_line src w _ _ _ (rw line_freed at h);
}

freed_space : (src : List ℕ) (front back : Bool) (s : State) → Frees src s (space_release src front back s)
freed_space src front back s = record {
  all = rw (freed_append, space_freed, append-nil) (split_notes stop_space s.queue);
  no_text = rw (texts_append, space_texts);
  longer = refl;
  tidy = λ w h. clean_append (clean_space src w _ _ _ (simp (freed_append, space_freed, append-nil) at h)) (a_piece (clean_behind src back (take_until stop_space s.queue)) no_piece);
}

freed_hint : (src : List ℕ) (h : Hint) (s : State) → Frees src s (hinted src h s)
freed_hint src Line s = search freed_line
freed_hint src Prefix s = search freed_space
freed_hint src Suffix s = search freed_space
freed_hint src Infix s = search freed_space

freed_none : (src : List ℕ) (s : State) → Freed src s s.queue s.len []
freed_none src s = record { all = refl; no_text = refl; longer = sym (add-zero s.len); tidy = λ _ _. no_piece }

freed_flush : (src : List ℕ) (preserve : Bool) (s : State) → Frees src s (flush preserve s [])
freed_flush src preserve s = record { all = refl; no_text = refl; longer = refl; tidy = λ _ _. a_piece (clean_flush src s) no_piece }

freed_length : {src : List ℕ} {s : State} {q : List Comment} {n : ℕ} {ps : List Piece} → Freed src s q n ps → length (freed ps) + length q ≡ length s.queue
freed_length f = simp (length-append, length-map) at (ap length f.all)

-- ---- the calls

module _ (x : Script) (cap : ℕ) (s : State) (open-yet : s.finished ≡ false) where
  still_open : {q : List Comment} → s.finished ≡ true → q ≡ []
  still_open f = absurd (true≢false (sym f ∙ open-yet))

  -- a call that collects nothing and writes no text
  quiet : {c : Call} {s' : State} {ps : List Piece} → collects x c ≡ [] → writes x c ≡ [] → Freed x.source s s'.queue s'.len ps
      → (s'.finished ≡ true → s'.queue ≡ []) → (s.len ≤ cap → s'.len ≤ cap) → (s.indent ≤ 64 → s'.indent ≤ 64) → Fair x cap s c s' ps
  quiet ec ew f e g lv = record {
    moved = rw (ec, append-nil) f.all;
    wrote = f.no_text ∙ sym ew;
    apart = inr f.no_text;
    grew = f.longer;
    emptied = e;
    fits = g;
    room = λ h. omega (arith, freed_length f);
    level = lv;
    clean = λ w _ h. f.tidy w h;
  }

  -- what a call has written before it collects: no comment
  record Before (c : Call) (e : Emit) : Type 0 where
    queue : e.state.queue ≡ s.queue
    indent : e.state.indent ≡ s.indent
    finished : e.state.finished ≡ s.finished
    no_note : freed e.out ≡ []
    texts_are : texts e.out ≡ writes x c
    longer : e.state.len ≡ s.len + length (flat e.out)
    tidy : formed x.source ≡ Well → SpansInside x.source x.tree → AllClean x.source e.out

  gathered : {c : Call} (i lines : ℕ) (cs : List Comment) (e : Emit) → collects x c ≡ notes_from x i → Are (256 - length e.state.queue) (notes_from x i) cs
      → Before c e → (s.len ≤ cap → e.state.len ≤ cap) → Fair x cap s c (collected e.state lines cs) e.out
  gathered i lines cs e ec are b g = record {
    moved = rw (b.no_note, ec, ← are.same, b.queue) (map_append note_of s.queue cs);
    wrote = b.texts_are;
    apart = inl b.no_note;
    grew = b.longer;
    emptied = λ f. still_open (sym b.finished ∙ f);
    fits = g;
    room = λ h. omega (arith, length-append e.state.queue cs, ap length b.queue, are.few);
    level = λ h. omega (arith, b.indent);
    clean = λ w g _. b.tidy w g;
  }

  write_fair : {c : Call} (k : RecordNo) (e : Emit) → collects x c ≡ notes_from x (behind x k) → Before c e → OnDone (Fair x cap s c) (write_node x cap k s e)
  write_fair k e ec b =
      on_refuse _ _ λ r. on_gather x (behind x k) _ _ λ lines cs are. is_done (gathered (behind x k) lines cs e ec are b (λ _. ltb-false cap e.state.len r))

  hint_open : (h : Hint) {q : List Comment} → (hinted x.source h s).state.finished ≡ true → q ≡ []
  hint_open Line = still_open
  hint_open Prefix = still_open
  hint_open Suffix = still_open
  hint_open Infix = still_open

  hint_level : (h : Hint) → s.indent ≤ 64 → (hinted x.source h s).state.indent ≤ 64
  hint_level Line h = h
  hint_level Prefix h = h
  hint_level Suffix h = h
  hint_level Infix h = h

  shift_fair : (d : ℕ) (h : Shift) → OnDone (Fair x cap s (Indent d)) (shifted s h)
  unfolding collects writes
  shift_fair d (deeper n) = on_refuse _ _ λ b. is_done (quiet refl refl (freed_none x.source s) still_open (λ h. h) (λ _. ltb-false 64 (s.indent + n) b))
  shift_fair d (outer n) = on_refuse _ _ λ _. is_done (quiet refl refl (freed_none x.source s) still_open (λ h. h) (λ h. omega arith))

  prefix_fair : OnDone (Fair x cap s FlushPrefixComments) (act x cap s FlushPrefixComments)
  unfolding collects writes act
  prefix_fair = on_gather x 0 s _ λ lines cs are.
      let s₁ = collected s lines cs in
      let f = freed_line x.source false s₁ in
      on_refuse _ _ λ b. is_done (record {
        moved = f.all ∙ map_append note_of s.queue cs ∙ ap (map note_of s.queue ++◌) are.same;
        wrote = f.no_text;
        apart = inr f.no_text;
        grew = f.longer;
        emptied = still_open;
        fits = λ _. ltb-false cap _ b;
        room = λ h. omega (arith, freed_length f, length-append s.queue cs, are.few);
        level = λ h. h;
        clean = λ w _ h. f.tidy w h;
      })

  act_fair : (c : Call) → OnDone (Fair x cap s c) (act x cap s c)
  unfolding collects writes act
  act_fair (WriteOwned k) = write_fair k (flush false s (text (node_text x k) ∷ [])) refl (record {
    queue = refl;
    indent = refl;
    finished = refl;
    no_note = refl;
    texts_are = refl;
    longer = refl;
    tidy = λ w g. a_piece (clean_flush x.source s) (a_piece (clean_node x k w g) no_piece);
  })
  act_fair (WriteRaw k) = write_fair k (emit s (text (node_text x k) ∷ [])) refl (record {
    queue = refl;
    indent = refl;
    finished = refl;
    no_note = refl;
    texts_are = refl;
    longer = refl;
    tidy = λ w g. a_piece (clean_node x k w g) no_piece;
  })
  act_fair (Ignore k) = on_gather x (behind x k) s _ λ lines cs are. is_done (gathered (behind x k) lines cs (record { state = s; out = [] }) refl are (record {
    queue = refl;
    indent = refl;
    finished = refl;
    no_note = refl;
    texts_are = refl;
    longer = sym (add-zero s.len);
    tidy = λ _ _. no_piece;
  }) (λ h. h))
  act_fair (Lit t) = on_refuse _ _ λ b. is_done (record {
    moved = sym (append-nil (map note_of s.queue));
    wrote = refl;
    apart = inl refl;
    grew = refl;
    emptied = still_open;
    fits = λ _. ltb-false cap _ b;
    room = λ h. h;
    level = λ h. h;
    clean = λ _ _ _. a_piece (clean_flush x.source s) (a_piece (clean_lit x.source t) no_piece);
  })
  act_fair (Comments h) = on_refuse _ _ λ b. is_done (quiet refl refl (freed_hint x.source h s) (hint_open h) (λ _. ltb-false cap _ b) (hint_level h))
  act_fair (Indent d) = shift_fair d (signed d)
  act_fair (Nl zero) = is_done (quiet refl refl (freed_none x.source s) still_open (λ h. h) (λ h. h))
  act_fair (Nl (suc n)) = on_refuse _ _ λ b. is_done (quiet refl refl (freed_line x.source true s) still_open (λ _. ltb-false cap _ b) (λ h. h))
  act_fair Ws = on_refuse _ _ λ b. is_done (quiet refl refl (freed_space x.source true false s) still_open (λ _. ltb-false cap _ b) (λ h. h))
  act_fair (FlushWhitespace preserve) = on_refuse _ _ λ b. is_done (quiet refl refl (freed_flush x.source preserve s) still_open (λ _. ltb-false cap _ b) (λ h. h))
  act_fair FlushPrefixComments = prefix_fair
  act_fair Finish = on_refuse _ _ λ b. is_done (quiet refl refl (freed_line x.source false s) (λ _. none_left s.queue) (λ _. ltb-false cap _ b) (λ h. h))

-- ---- the step: 10 and 11 first

on_there : {P : State → List Piece → Type 0} (x : Script) (n : Named) {o : Outcome} → OnDone P o → OnDone P (if_there x n o)
on_there x no_node h = h
on_there x (a_node k) h = on_refuse _ _ λ _. h

module _ (x : Script) (cap : ℕ) where
  step_fair : (s : State) (c : Call) → OnDone (Fair x cap s c) (step x cap s c)
  unfolding step
  step_fair s c = on_refuse _ _ λ o. on_there x (named_by c) (act_fair x cap s o c)

  -- only an open engine goes a step, and a finish closes it
  step_open : (s : State) (c : Call) → OnDone (λ _ _. s.finished ≡ false) (step x cap s c)
  unfolding step
  step_open s c = on_refuse _ _ λ o. on_any _ o

  step_closes : (s : State) → OnDone (λ s' _. s'.finished ≡ true) (step x cap s Finish)
  unfolding step act
  step_closes s = on_refuse _ _ λ _. on_refuse _ _ λ _. is_done refl

  pub fair : {s s₁ : State} {ps : List Piece} (c : Call) → step x cap s c ≡ done s₁ ps → Fair x cap s c s₁ ps
  fair {s} c e = of_done (rw e at (step_fair s c))

  pub was_open : (s : State) {s₁ : State} {ps : List Piece} (c : Call) → step x cap s c ≡ done s₁ ps → s.finished ≡ false
  was_open s c e = of_done (rw e at (step_open s c))

  pub closes : (s : State) {s₁ : State} {ps : List Piece} → step x cap s Finish ≡ done s₁ ps → s₁.finished ≡ true
  closes s e = of_done (rw e at (step_closes s))
