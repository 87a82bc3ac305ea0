-- Calls one behind the other, none refused. Assumes nothing.
use mathlib.Core.Path.{◌≡◌, refl, sym, ap, ◌∙◌}
use Prim.Native.Nat.{ℕ, ◌+◌, ◌≤◌, zero-le}
use native.Mathlib.Nat.{add-zero, add_assoc}
use mathlib.Core.Bool.{true, false, true≢false}
use mathlib.Core.List.{List, [], ◌∷◌, ◌++◌, map, append_assoc}
use lib.ListN.{length, length-append}
use Rattle.encoding.specs.Utf8.{Well, formed}
use Rattle.meaning.specs.declared.call.Call.{Call}
use Rattle.meaning.specs.State.{Script, note_of, State, fresh}
use Rattle.meaning.specs.Pieces.{Piece, flat}
use Rattle.meaning.specs.Outcome.{done}
use Rattle.meaning.specs.Calls.{step}
use Rattle.meaning.specs.Demand3.{SpansInside, Finishes, here, there}
use Rattle.meaning.proofs.Laws.{freed, flat_append}
use Rattle.meaning.proofs.Clean.{AllClean, no_piece, clean_append, Inside, no_note, inside_append, inside_front, inside_back, collects_inside}
use Rattle.meaning.proofs.Step.{fair, was_open, closes}

-- a call that went, and what it wrote
pub record Made : Type 0 where
  pub call : Call
  pub out : List Piece

abbrev pub made : Call → List Piece → Made
made c ps = record { call = c; out = ps }

abbrev pub call_of : Made → Call
call_of m = m.call

abbrev pub calls_in : List Made → List Call
calls_in ms = map call_of ms

abbrev pub pieces : List Made → List Piece
pieces [] = []
pieces (m ∷ ms) = m.out ++ pieces ms

pub pieces_append : (ms ns : List Made) → pieces (ms ++ ns) ≡ pieces ms ++ pieces ns
pieces_append [] ns = refl
pieces_append (m ∷ ms) ns = ap (m.out ++◌) (pieces_append ms ns) ∙ sym (append_assoc m.out (pieces ms) (pieces ns))

pub data Steps (x : Script) (cap : ℕ) : State → List Made → State → Type 0 where
  nil : {s : State} → Steps x cap s [] s
  go : {s s₁ t : State} {ms : List Made} {ps : List Piece} (c : Call) → step x cap s c ≡ done s₁ ps → Steps x cap s₁ ms t → Steps x cap s (made c ps ∷ ms) t

-- a state that passes the checks on what is lent
pub record Sound (src : List ℕ) (cap : ℕ) (s : State) : Type 0 where
  pub fits : s.len ≤ cap
  pub room : length s.queue ≤ 256
  pub inside : Inside src (map note_of s.queue)
  pub level : s.indent ≤ 64

pub sound_fresh : (src : List ℕ) (cap : ℕ) → Sound src cap fresh
sound_fresh src cap = record { fits = zero-le; room = zero-le; inside = no_note; level = zero-le }

module _ (x : Script) (cap : ℕ) where
  pub steps_append : {s s₁ t : State} {ms ns : List Made} → Steps x cap s ms s₁ → Steps x cap s₁ ns t → Steps x cap s (ms ++ ns) t
  steps_append nil q = q
  steps_append (go c e r) q = go c e (steps_append r q)

  pub grew_from : {s t : State} {ms : List Made} → Steps x cap s ms t → t.len ≡ s.len + length (flat (pieces ms))
  grew_from nil = sym (add-zero _)
  grew_from (go {ms} {ps} c e r) = rw (flat_append ps (pieces ms), length-append (flat ps), ← add_assoc, ← (fair x cap c e).grew) (grew_from r)

  pub fits_from : {s t : State} {ms : List Made} → Steps x cap s ms t → s.len ≤ cap → t.len ≤ cap
  fits_from nil h = h
  fits_from (go c e r) h = fits_from r ((fair x cap c e).fits h)

  -- ---- a finish

  emptied_from : {s t : State} {ms : List Made} → Steps x cap s ms t → (s.finished ≡ true → s.queue ≡ []) → t.finished ≡ true → t.queue ≡ []
  emptied_from nil h = h
  emptied_from (go c e r) h = emptied_from r (fair x cap c e).emptied

  closed_from : {s t : State} {ms : List Made} → Steps x cap s ms t → s.finished ≡ true → t.finished ≡ true
  closed_from nil h = h
  closed_from {s} (go c e r) h = absurd (true≢false (sym h ∙ was_open x cap s c e))

  finished_from : {s t : State} {ms : List Made} → Steps x cap s ms t → Finishes (calls_in ms) → t.finished ≡ true
  finished_from (nil {s = s}) x6 = elim x6 [ ]
  finished_from {s} (go c e r) here = closed_from r (closes x cap s e)
  finished_from (go c e r) (there f) = finished_from r f

  pub none_waits_from : {s t : State} {ms : List Made} → Steps x cap s ms t → s.finished ≡ false → Finishes (calls_in ms) → t.queue ≡ []
  none_waits_from r o f = emptied_from r (λ h. absurd (true≢false (sym h ∙ o))) (finished_from r f)

  -- ---- spans in the source, and what White_Space deleted leaves

  module _ (g : SpansInside x.source x.tree) where
    -- what a call lets out and what then waits lies in the source
    both_inside : (s : State) {s₁ : State} {ps : List Piece} (c : Call) → step x cap s c ≡ done s₁ ps → Inside x.source (map note_of s.queue)
        → Inside x.source (freed ps ++ map note_of s₁.queue)
    both_inside s c e h = rw (fair x cap c e).moved (inside_append h (collects_inside x g c))

    pub sound_from : {s t : State} {ms : List Made} → Steps x cap s ms t → Sound x.source cap s → Sound x.source cap t
    sound_from nil h = h
    sound_from {s} (go {ps} c e r) h =
        let f = fair x cap c e in
        sound_from r (record { fits = f.fits h.fits; room = f.room h.room; inside = inside_back (freed ps) (both_inside s c e h.inside); level = f.level h.level })

    pub clean_from : {s t : State} {ms : List Made} → formed x.source ≡ Well → Steps x cap s ms t → Inside x.source (map note_of s.queue) → AllClean x.source (pieces ms)
    clean_from w nil h = no_piece
    clean_from {s} w (go {ps} c e r) h =
        let both = both_inside s c e h in
        clean_append ((fair x cap c e).clean w g (inside_front (freed ps) _ both)) (clean_from w r (inside_back (freed ps) both))
