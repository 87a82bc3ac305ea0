-- The flush: the white space that is due is written. Assumes nothing.
use Rattle.std.specs.Prelude.{ℕ, Bool, false, not, cond, ◌&&◌, List, [], ◌∷◌, ltb}
use Rattle.meaning.specs.State.{State, with_hints}
use Rattle.meaning.specs.Pieces.{space, breaks, Piece, gap, Emit, emit}

abbrev pub breaking : State → Bool
breaking s = s.use_lines && ltb 0 s.lines

-- newlines and indent, or, where none are due, the space of `ws`
abbrev pub flush_gap : State → List ℕ
flush_gap s = cond (breaking s) (breaks s.indent s.lines) (cond s.ws (space ∷ []) [])

-- newlines written clear all three; a space written clears `ws`; not preserving clears `lines` and `use_lines` in any case
abbrev pub flushed : Bool → State → State
flushed preserve s =
    let keep = preserve && not (breaking s) in
    with_hints s (cond keep s.lines 0) (keep && s.use_lines) false

-- the flush, and pieces behind it
abbrev pub flush : Bool → State → List Piece → Emit
flush preserve s ps = emit (flushed preserve s) (gap (flush_gap s) ∷ ps)
