-- How the formatter and the ring's words read as the engine's state. Assumes nothing.
use Rattle.std.specs.Prelude.{◌≡◌, ℕ, zero, suc, ◌+◌, ◌-◌, ◌*◌, ◌%◌, Bool, cond, List, [], ◌∷◌, ◌++◌, length, set, take, get_or, replicate, eqb}
use Rattle.std.proofs.lemmas.List.Edits.{sets}
use Rattle.tree.specs.Records.{span_of}
use Rattle.tree.specs.Table.{tree_of}
use Rattle.meaning.specs.State.{Script, Comment, State}
use Rattle.meaning.specs.Pieces.{newline, space}
use Rattle.meaning.specs.World.{world, Result, result}
use Rattle.lent.specs.declared.ring.Comment as ring
use Rattle.lent.specs.declared.room.Gap.{Gap}
use Rattle.lent.specs.declared.formatter.Formatter.{Formatter}

-- f at i, i + 1, .., n of them
unfoldable pub tab : {A : Type 0} → (ℕ → A) → ℕ → ℕ → List A
tab f i zero = []
tab f i (suc n) = f i ∷ tab f (suc i) n

-- ---- the queue

abbrev pub as_comment : ring.Comment → Comment
as_comment c = record { span = c.span; before = c.before; line = c.line }

-- the first word of slot i, counted around the ring
abbrev pub slot_of : ℕ → ℕ
slot_of i = i % 256 * 4

abbrev pub flag_of : Bool → ℕ
flag_of line = cond line 1 0

abbrev pub comment_from : List ℕ → ℕ → Comment
comment_from q p = record { span = span_of (get_or q p 0) (get_or q (p + 1) 0); before = get_or q (p + 2) 0; line = eqb (get_or q (p + 3) 0) 1 }

abbrev pub ring_at : List ℕ → ℕ → Comment
ring_at q i = comment_from q (slot_of i)

-- n comments from slot `head` on
abbrev pub queue_of : List ℕ → ℕ → ℕ → List Comment
queue_of q head n = tab (ring_at q) head n

-- the words of a comment at place p
abbrev pub stored : List ℕ → ℕ → Comment → List ℕ
stored q p c = set (set (set (set q p c.span.start.0) (p + 1) c.span.end.0) (p + 2) c.before) (p + 3) (flag_of c.line)

unfoldable pub slot_words : List Comment → List ℕ
slot_words [] = []
slot_words (c ∷ cs) = c.span.start.0 ∷ c.span.end.0 ∷ c.before ∷ flag_of c.line ∷ slot_words cs

-- a queue as a caller gets it: from slot 0 on, and zero behind it; no more than 256 are let in
unfoldable pub slots_of : List Comment → List ℕ
slots_of cs = let kept = take 256 cs in slot_words kept ++ replicate (1024 - length kept * 4) 0

-- ---- the state, and what is left of engine and buffer

abbrev pub view : Formatter → List ℕ → State
view r q =
    record { len = r.len; queue = queue_of q r.head r.count; lines = r.lines; use_lines = r.use_lines; ws = r.ws; indent = r.indent; finished = r.finished }

abbrev pub result_of : Formatter → List ℕ → List ℕ → Result
result_of r q b = result r.answer (world (view r q) b)

abbrev pub script_of : List ℕ → List ℕ → Script
script_of src table = record { source = src; tree = tree_of table }

-- ---- white space in front of a text

abbrev pub gap_bytes : Gap → List ℕ
gap_bytes g = replicate g.lines newline ++ replicate g.spaces space

-- a gap and a text behind it, written from place `at` on, as far as `to`
pub record Laid (b : List ℕ) (at : ℕ) (g : Gap) (t : List ℕ) (to : ℕ) (b' : List ℕ) : Type 0 where
  pub end : to ≡ at + (g.lines + g.spaces) + length t
  pub bytes : b' ≡ sets b at (gap_bytes g ++ t)
