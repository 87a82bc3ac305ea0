-- Worked states: every word in its place, and the shape that is asked, flag by flag. Assumes nothing.
use Rattle.std.specs.Prelude.{ℕ, ◌-◌, ◌*◌, Bool, true, false, not, ◌&&◌, List, [], ◌∷◌, ◌++◌, take, drop, replicate, eqb}
use Rattle.tree.specs.Records.{span_of}
use Rattle.meaning.specs.State.{Comment, State}
use Rattle.meaning.specs.Cases.{same}
use Rattle.wire.specs.Words.{in_bytes}
use Rattle.wire.specs.StateBytes.{shaped, state_in, bytes_of}

-- ---- every word has a place of its own: no two of a row are alike, save flags, of which each is set alone once

abbrev pub waiting : List Comment
waiting = record { span = span_of 0x0506 0x0708; before = 0x090A; line = true } ∷ record { span = span_of 0x0B0C 0x0D0E; before = 0x0F10; line = false } ∷ []

abbrev pub state : Bool → Bool → Bool → State
state use_lines ws finished = record { len = 0x01020304; queue = waiting; lines = 0x1112; use_lines = use_lines; ws = ws; indent = 0x40; finished = finished }

-- the bytes behind which all is zero
abbrev pub head : ℕ → ℕ → ℕ → List ℕ
head use_lines ws finished =
    -- output length, lines
    0x04 ∷ 0x03 ∷ 0x02 ∷ 0x01 ∷ 0x12 ∷ 0x11 ∷ 0 ∷ 0
    -- use_lines, ws
    ∷ use_lines ∷ 0 ∷ 0 ∷ 0 ∷ ws ∷ 0 ∷ 0 ∷ 0
    -- indent, finished
    ∷ 0x40 ∷ 0 ∷ 0 ∷ 0 ∷ finished ∷ 0 ∷ 0 ∷ 0
    -- waiting, and a word that is zero
    ∷ 0x02 ∷ 0 ∷ 0 ∷ 0 ∷ 0 ∷ 0 ∷ 0 ∷ 0
    -- of each comment start, end, before, and 1 for a line comment
    ∷ 0x06 ∷ 0x05 ∷ 0 ∷ 0 ∷ 0x08 ∷ 0x07 ∷ 0 ∷ 0 ∷ 0x0A ∷ 0x09 ∷ 0 ∷ 0 ∷ 0x01 ∷ 0 ∷ 0 ∷ 0
    ∷ 0x0C ∷ 0x0B ∷ 0 ∷ 0 ∷ 0x0E ∷ 0x0D ∷ 0 ∷ 0 ∷ 0x10 ∷ 0x0F ∷ 0 ∷ 0 ∷ 0 ∷ 0 ∷ 0 ∷ 0
    ∷ []

abbrev pub bytes : ℕ → ℕ → ℕ → List ℕ
bytes use_lines ws finished = head use_lines ws finished ++ replicate (4128 - 64) 0

-- ---- rows

pub data Row : Type 0 where
  -- a state, and its bytes: written, and read again
  written : State → List ℕ → Row
  -- bytes beside a buffer of so many: have they the shape?
  shape : List ℕ → ℕ → Bool → Row

abbrev pub agree : Bool → Bool → Bool
agree true b = b
agree false b = not b

same_comments : List Comment → List Comment → Bool
same_comments [] [] = true
same_comments [] (d ∷ ds) = false
same_comments (c ∷ cs) [] = false
same_comments (c ∷ cs) (d ∷ ds) =
    eqb c.span.start.0 d.span.start.0 && eqb c.span.end.0 d.span.end.0 && eqb c.before d.before && agree c.line d.line && same_comments cs ds

same_state : State → State → Bool
same_state s t =
    eqb s.len t.len && same_comments s.queue t.queue && eqb s.lines t.lines && agree s.use_lines t.use_lines
    && agree s.ws t.ws && eqb s.indent t.indent && agree s.finished t.finished

unfoldable pub holds : Row → Bool
unfolding same_state same_comments
holds (written s bs) = same (bytes_of s) bs && same_state (state_in bs) s
holds (shape bs cap good) = agree (shaped bs cap) good

abbrev pub all_hold : List Row → Bool
all_hold [] = true
all_hold (r ∷ rs) = holds r && all_hold rs

-- zero, save word i
abbrev pub only : ℕ → ℕ → List ℕ
only i w = replicate (i * 4) 0 ++ in_bytes (w ∷ []) ++ replicate (4128 - 4 - i * 4) 0

-- so many wait, and word i is w
abbrev pub wait : ℕ → ℕ → ℕ → List ℕ
wait n i w = take 24 (only i w) ++ in_bytes (n ∷ []) ++ drop 28 (only i w)

abbrev pub table : List Row
table =
    written (state true false false) (bytes 1 0 0)
    ∷ written (state false true false) (bytes 0 1 0)
    ∷ written (state false false true) (bytes 0 0 1)
    -- 4,128 bytes, and a buffer whose length fits a word
    ∷ shape (replicate 4128 0) 0 true
    ∷ shape (replicate 4127 0) 0 false
    ∷ shape (replicate 4129 0) 0 false
    ∷ shape (replicate 4128 0) 0xFFFFFFFF true
    ∷ shape (replicate 4128 0) 0x100000000 false
    -- use_lines, ws and finished are 0 or 1; word 7 is not looked at
    ∷ shape (only 2 1) 0 true
    ∷ shape (only 2 2) 0 false
    ∷ shape (only 3 2) 0 false
    ∷ shape (only 5 2) 0 false
    ∷ shape (only 7 2) 0 true
    -- so is the line word of the first comment that waits, and of the last; not of those that do not wait
    ∷ shape (wait 1 11 1) 0 true
    ∷ shape (wait 1 11 2) 0 false
    ∷ shape (wait 1 15 2) 0 true
    ∷ shape (wait 256 1031 2) 0 false
    ∷ shape (wait 255 1031 2) 0 true
    ∷ shape (wait 257 1031 2) 0 false
    ∷ []
