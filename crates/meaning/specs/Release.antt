-- The releases: comments from the head of the queue are let out. Assumes nothing.
use Rattle.std.specs.Prelude.{ℕ, zero, suc, Bool, true, false, not, cond, ◌&&◌, List, [], ◌∷◌, ◌++◌, ltb, eqb}
use Rattle.text.specs.Span.{text_of}
use Rattle.text.specs.Trim.{trim}
use Rattle.meaning.specs.declared.call.Hint.{Hint}
use Rattle.meaning.specs.declared.call.Hint.TheVariants.{Line, Prefix, Suffix, Infix}
use Rattle.meaning.specs.State.{Comment, State, with_queue}
use Rattle.meaning.specs.Pieces.{space, breaks, Piece, gap, comment, Emit, emit}

-- ---- from the head of the queue up to the first comment that stops

abbrev pub take_until : (Comment → Bool) → List Comment → List Comment
take_until stops [] = []
take_until stops (c ∷ cs) = cond (stops c) [] (c ∷ take_until stops cs)

abbrev pub drop_until : (Comment → Bool) → List Comment → List Comment
drop_until stops [] = []
drop_until stops (c ∷ cs) = cond (stops c) (c ∷ cs) (drop_until stops cs)

abbrev pub is_nil : List ℕ → Bool
is_nil [] = true
is_nil (b ∷ bs) = false

abbrev pub is_empty : State → Bool
is_empty s = eqb s.len 0

abbrev pub comment_text : List ℕ → Comment → List ℕ
comment_text src c = text_of src c.span

-- ---- line release

-- "same line only" stops at the first comment with newlines before it
abbrev pub stop_line : Bool → Comment → Bool
stop_line sameLine c = sameLine && ltb 0 c.before

-- nothing where the output is empty; else a space, or newlines and indent
abbrev pub line_gap : ℕ → Bool → ℕ → List ℕ
line_gap indent true before = []
line_gap indent false zero = space ∷ []
line_gap indent false (suc before) = breaks indent (suc before)

-- a line comment without the White_Space at its end
abbrev pub trimmed : List ℕ → Comment → List ℕ
trimmed src c = cond c.line (trim (comment_text src c)) (comment_text src c)

-- a comment's text can be empty, so that the output is empty still
unfoldable pub line_pieces : List ℕ → ℕ → Bool → List Comment → List Piece
line_pieces src indent empty [] = []
line_pieces src indent empty (c ∷ cs) =
    gap (line_gap indent empty c.before) ∷ comment c (trimmed src c) ∷ line_pieces src indent (empty && is_nil (trimmed src c)) cs

abbrev pub line_release : List ℕ → Bool → State → Emit
line_release src sameLine s =
    emit (with_queue s (drop_until (stop_line sameLine) s.queue))
    (line_pieces src s.indent (is_empty s) (take_until (stop_line sameLine) s.queue))

-- ---- space release

abbrev pub stop_space : Comment → Bool
stop_space c = c.line

abbrev pub space_gap : Bool → Bool → List ℕ
space_gap front empty = cond (front && not empty) (space ∷ []) []

-- a space before the first where "in front", and before every other
unfoldable pub space_pieces : List ℕ → Bool → Bool → List Comment → List Piece
space_pieces src front empty [] = []
space_pieces src front empty (c ∷ cs) =
    gap (space_gap front empty) ∷ comment c (comment_text src c) ∷ space_pieces src true (empty && is_nil (comment_text src c)) cs

abbrev pub behind_gap : Bool → List Comment → List ℕ
behind_gap back [] = []
behind_gap back (c ∷ cs) = cond back (space ∷ []) []

abbrev pub space_release : List ℕ → Bool → Bool → State → Emit
space_release src front back s =
    let out = take_until stop_space s.queue in
    emit (with_queue s (drop_until stop_space s.queue)) (space_pieces src front (is_empty s) out ++ (gap (behind_gap back out) ∷ []))

-- ---- the four hints; on an empty queue each writes nothing

abbrev pub hinted : List ℕ → Hint → State → Emit
hinted src Line s = line_release src false s
hinted src Prefix s = space_release src false true s
hinted src Suffix s = space_release src true false s
hinted src Infix s = space_release src false false s
