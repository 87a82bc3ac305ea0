-- Document 01's sentences on the flush and the releases, one step after the other: the definitions agree with them. Assumes nothing.
use mathlib.Core.Path.{◌≡◌, refl, sym, ap, ◌∙◌}
use Prim.Native.Nat.{ℕ, zero, suc, ◌+◌}
use native.Mathlib.Nat.{add_assoc, zero-add, suc-add}
use mathlib.Core.Bool.{Bool, true, false, not, cond, ◌&&◌}
use mathlib.Core.List.{List, [], ◌∷◌, ◌++◌, append-nil}
use lib.ListN.{length, length-append}
use lib.Dec.{eqb, eqb-suc-zero}
use Rattle.meaning.specs.State.{Comment, State, with_len, with_queue, with_hints, with_lines, with_use_lines, with_ws}
use Rattle.meaning.specs.Pieces.{space, breaks, Piece, gap, comment, flat, Emit, emit}
use Rattle.meaning.specs.Flush.{breaking, flush_gap, flushed}
use Rattle.meaning.specs.Release.{take_until, drop_until, is_nil, is_empty, comment_text, stop_line, line_gap, trimmed, line_pieces, line_release, stop_space, space_gap, space_pieces, behind_gap, space_release}
use Rattle.meaning.proofs.Laws.{flat_append}

-- ---- the flush

-- "if `use_lines` and `lines` > 0, write newlines and indent, then clear `ws`, `use_lines`, `lines`"
abbrev pub broken : State → State
broken s = cond (breaking s) (with_hints s 0 false false) s

abbrev pub broken_bytes : State → List ℕ
broken_bytes s = cond (breaking s) (breaks s.indent s.lines) []

-- "then, if `ws`, write a space and clear it"
abbrev pub spaced : State → State
spaced s = cond s.ws (with_ws s false) s

abbrev pub spaced_bytes : State → List ℕ
spaced_bytes s = cond s.ws (space ∷ []) []

-- "if not preserving, clear `lines` and `use_lines`"
abbrev pub cleared : Bool → State → State
cleared preserve s = cond preserve s (with_use_lines (with_lines s 0) false)

pub flush_state : (preserve : Bool) (s : State) → flushed preserve s ≡ cleared preserve (spaced (broken s))
flush_state preserve s = go preserve (breaking s) s.ws refl
  where
    go : (p b w : Bool) → s.ws ≡ w
        → with_hints s (cond (p && not b) s.lines 0) ((p && not b) && s.use_lines) false ≡ cleared p (spaced (cond b (with_hints s 0 false false) s))
    go true true w e = refl
    go false true w e = refl
    go true false true e = rw e
    go false false true e = rw e
    go true false false e = ap (with_ws s) (sym e) ∙ rw e
    go false false false e = ap (with_hints s 0 false) (sym e) ∙ rw e

pub flush_bytes : (s : State) → flush_gap s ≡ broken_bytes s ++ spaced_bytes (broken s)
flush_bytes s = go (breaking s)
  where
    go : (b : Bool) → cond b (breaks s.indent s.lines) (spaced_bytes s) ≡ cond b (breaks s.indent s.lines) [] ++ spaced_bytes (cond b (with_hints s 0 false false) s)
    go true = sym (append-nil _)
    go false = refl

-- ---- the releases, comment by comment

-- pieces, and what is written from the state behind them on
abbrev pub ◌and_then◌ : List Piece → Emit → Emit
ps and_then e = record { state = e.state; out = ps ++ e.out }

infix 20 ◌and_then◌
-- whether the output is empty behind a gap and a text, where an empty output gets no gap
empty_next : (n : ℕ) (g t : List ℕ) → (eqb n 0 ≡ true → g ≡ []) → eqb (n + length (g ++ (t ++ []))) 0 ≡ eqb n 0 && is_nil t
empty_next zero g t h = rw (h refl, append-nil t, zero-add) (no_bytes t)
  where
    no_bytes : (t : List ℕ) → eqb (length t) 0 ≡ is_nil t
    no_bytes [] = refl
    no_bytes (b ∷ bs) = eqb-suc-zero (length bs)
empty_next (suc n) g t h = rw (suc-add n (length (g ++ (t ++ []))), eqb-suc-zero (n + length (g ++ (t ++ []))), eqb-suc-zero n)

-- pieces written in one go, or in two
emit_then : (s : State) (ps qs : List Piece) → emit s (ps ++ qs) ≡ ps and_then emit (emit s ps).state qs
emit_then s ps qs = ap (λ (n : ℕ). record { state = with_len s n; out = ps ++ qs }) (rw (flat_append ps qs, length-append (flat ps)) (sym (add_assoc s.len _ _)))

module _ (src : List ℕ) (sameLine : Bool) where
  -- one comment: unless the output is empty, a space or newlines and indent; then the text
  abbrev pub line_one : State → Comment → List Piece
  line_one s c = gap (line_gap s.indent (is_empty s) c.before) ∷ comment c (trimmed src c) ∷ []

  -- an empty queue, or a comment that stops at the head: nothing
  pub line_none : (s : State) → line_release src sameLine (with_queue s []) ≡ emit (with_queue s []) []
  unfolding line_pieces
  line_none s = refl

  pub line_stop : (s : State) (c : Comment) (cs : List Comment) → stop_line sameLine c ≡ true
      → line_release src sameLine (with_queue s (c ∷ cs)) ≡ emit (with_queue s (c ∷ cs)) []
  unfolding line_pieces
  line_stop s c cs e = rw e

  -- any other at the head goes, and the release goes on from there
  pub line_next : (s : State) (c : Comment) (cs : List Comment) → stop_line sameLine c ≡ false
      → line_release src sameLine (with_queue s (c ∷ cs)) ≡ line_one s c and_then line_release src sameLine (emit (with_queue s cs) (line_one s c)).state
  unfolding line_pieces
  line_next s c cs e =
      let still = empty_next s.len (line_gap s.indent (is_empty s) c.before) (trimmed src c) (λ h. rw h) in
      let later = take_until (stop_line sameLine) cs in
      let s₁ = with_queue s (drop_until (stop_line sameLine) cs) in
      rw e (ap (λ (b : Bool). emit s₁ (line_one s c ++ line_pieces src s.indent b later)) (sym still) ∙ emit_then s₁ (line_one s c) (line_pieces src s.indent _ later))

module _ (src : List ℕ) where
  -- the same for spaces: in front of the first where `front`, and of every other
  abbrev pub space_one : Bool → State → Comment → List Piece
  space_one front s c = gap (space_gap front (is_empty s)) ∷ comment c (comment_text src c) ∷ []

  -- the release up to what is written behind it
  abbrev pub space_loop : Bool → State → Emit
  space_loop front s = emit (with_queue s (drop_until stop_space s.queue)) (space_pieces src front (is_empty s) (take_until stop_space s.queue))

  pub space_none : (front : Bool) (s : State) → space_loop front (with_queue s []) ≡ emit (with_queue s []) []
  unfolding space_pieces
  space_none front s = refl

  -- a line comment at the head stops it
  pub space_stop : (front : Bool) (s : State) (c : Comment) (cs : List Comment) → c.line ≡ true → space_loop front (with_queue s (c ∷ cs)) ≡ emit (with_queue s (c ∷ cs)) []
  unfolding space_pieces
  space_stop front s c cs e = rw e

  pub space_next : (front : Bool) (s : State) (c : Comment) (cs : List Comment) → c.line ≡ false
      → space_loop front (with_queue s (c ∷ cs)) ≡ space_one front s c and_then space_loop true (emit (with_queue s cs) (space_one front s c)).state
  unfolding space_pieces
  space_next front s c cs e =
      let still = empty_next s.len (space_gap front (is_empty s)) (comment_text src c) (λ h. rw h (no_gap front)) in
      let later = take_until stop_space cs in
      let s₁ = with_queue s (drop_until stop_space cs) in
      ap (λ (b : Bool). emit (with_queue s (cond b (c ∷ cs) (drop_until stop_space cs))) (space_pieces src front (is_empty s) (cond b [] (c ∷ later)))) e
      ∙ ap (λ (b : Bool). emit s₁ (space_one front s c ++ space_pieces src true b later)) (sym still)
      ∙ emit_then s₁ (space_one front s c) (space_pieces src true _ later)
    where
      no_gap : (front : Bool) → space_gap front true ≡ []
      no_gap true = refl
      no_gap false = refl

  -- "if any was let out and behind, one space"
  pub space_behind : (front back : Bool) (s : State)
      → space_release src front back s ≡ (space_loop front s).out and_then emit (space_loop front s).state (gap (behind_gap back (take_until stop_space s.queue)) ∷ [])
  space_behind front back s = emit_then (with_queue s (drop_until stop_space s.queue)) (space_loop front s).out _
