-- The checks on what is lent, their order, and the order of 12, 10 and 11 behind them: a row for each sentence of document 01. Assumes nothing.
use Rattle.std.specs.Prelude.{ℕ, Bool, true, false, ◌&&◌, List, [], ◌∷◌, ◌++◌, replicate, eqb, Ok, Err}
use Rattle.tree.specs.Records.{span_of}
use Rattle.meaning.specs.declared.answer.Refusal.TheVariants.{TreeBad, WrongKind}
use Rattle.meaning.specs.Answer.{Answer}
use Rattle.meaning.specs.State.{Script, Comment}
use Rattle.meaning.specs.World.{World, world, call_record}
use Rattle.meaning.specs.Plan.{Plan, nothing, refuse, run}
use Rattle.meaning.specs.Numbers.{Seen, ◌from◌, seen}
use Rattle.meaning.specs.Cases.{leaf, record_no, done}

-- é //z in six bytes, where no character begins at 1: a token, then two comments, then a token
abbrev pub script : Script
script = record { source = 0xC3 ∷ 0xA9 ∷ 0x20 ∷ 0x2F ∷ 0x2F ∷ 0x7A ∷ []; tree = leaf 3 0 2 ∷ leaf 1 3 5 ∷ leaf 2 5 5 ∷ leaf 3 5 6 ∷ [] }

-- ---- what is lent beside it

-- a line comment that waits with this span: where one is at the head, `ws` lets nothing out
abbrev pub waits : ℕ → ℕ → Comment
waits start end = record { span = span_of start end; before = 0; line = true }

abbrev pub good : Comment
good = waits 3 5

-- its end passes the source
abbrev pub outside : Comment
outside = waits 3 7

-- output length, what waits, `indent`, finished or not; over a buffer of five bytes
abbrev pub holds : ℕ → List Comment → ℕ → Bool → World
holds len queue indent finished =
    world (record { len = len; queue = queue; lines = 0; use_lines = false; ws = false; indent = indent; finished = finished })
    (replicate 5 0xEE)

-- an open one
abbrev pub lends : ℕ → List Comment → ℕ → World
lends len queue indent = holds len queue indent false

-- ---- rows

pub data Row : Type 0 where
  -- what `ws`, and a run without a call, answer to what is lent
  lent : World → Seen → Row
  -- opening's answer, what is lent, a call record: what is answered
  called : Answer → World → List ℕ → Seen → Row
  -- the same of a run
  ran : Answer → World → Plan → Seen → Row

abbrev pub is_seen : Answer → Seen → Bool
is_seen a s = eqb (seen a).number s.number && eqb (seen a).place s.place

unfoldable pub holds_true : Row → Bool
holds_true (lent w s) = is_seen (call_record (Ok tt) script w (0x08 ∷ [])).answer s && is_seen (run (Ok tt) script w nothing).answer s
holds_true (called a w bytes s) = is_seen (call_record a script w bytes).answer s
holds_true (ran a w p s) = is_seen (run a script w p).answer s

abbrev pub all_hold : List Row → Bool
all_hold [] = true
all_hold (r ∷ rs) = holds_true r && all_hold rs

-- an unknown call record, and records that write and that collect behind a node
abbrev pub unknown : List ℕ
unknown = 0x0C ∷ []

abbrev pub write_owned : ℕ → List ℕ
write_owned k = 0x01 ∷ k ∷ 0 ∷ 0 ∷ 0 ∷ []

abbrev pub ignore : ℕ → List ℕ
ignore k = 0x03 ∷ k ∷ 0 ∷ 0 ∷ 0 ∷ []

-- what a plan refuses by itself
abbrev pub wrong : Plan
wrong = refuse (WrongKind (record_no 1))

abbrev pub table : List Row
table =
    -- 4: the output length may be the buffer's, and no more; its place is that length
    lent (lends 5 [] 0) done
    ∷ lent (lends 6 [] 0) (4 from 6)
    -- 5: 256 may wait, and no more
    ∷ lent (lends 0 (replicate 256 good) 0) done
    ∷ lent (lends 0 (replicate 257 good) 0) (5 from 8192)
    -- 5: start ≤ end ≤ source length
    ∷ lent (lends 0 (waits 0 6 ∷ []) 0) done
    ∷ lent (lends 0 (waits 6 6 ∷ []) 0) done
    ∷ lent (lends 0 (waits 3 2 ∷ []) 0) (5 from 8192)
    ∷ lent (lends 0 (waits 6 7 ∷ []) 0) (5 from 8192)
    -- 5: both on character boundaries
    ∷ lent (lends 0 (waits 1 3 ∷ []) 0) (5 from 8192)
    ∷ lent (lends 0 (waits 0 1 ∷ []) 0) (5 from 8192)
    -- 5: every span that waits, the second and the last too
    ∷ lent (lends 0 (good ∷ outside ∷ []) 0) (5 from 8192)
    ∷ lent (lends 0 (replicate 255 good ++ outside ∷ []) 0) (5 from 8192)
    -- 6: `indent` may be 64, and no more; its place is `indent`
    ∷ lent (lends 0 [] 64) done
    ∷ lent (lends 0 [] 65) (6 from 65)
    -- 4 before 5 before 6
    ∷ lent (lends 6 (outside ∷ []) 0) (4 from 6)
    ∷ lent (lends 6 [] 65) (4 from 6)
    ∷ lent (lends 0 (outside ∷ []) 65) (5 from 8192)
    ∷ lent (lends 0 (replicate 257 good) 65) (5 from 8192)
    ∷ lent (lends 6 (outside ∷ []) 65) (4 from 6)
    -- what opening refuses comes before them
    ∷ called (Err (TreeBad (record_no 1))) (holds 6 (outside ∷ []) 65 true) unknown (3 from 1)
    ∷ ran (Err (TreeBad (record_no 1))) (holds 6 (outside ∷ []) 65 true) wrong (3 from 1)
    -- 12 and 10 come behind them
    ∷ called (Ok tt) (holds 6 [] 0 true) unknown (4 from 6)
    ∷ called (Ok tt) (holds 0 (outside ∷ []) 0 true) unknown (5 from 8192)
    ∷ called (Ok tt) (holds 0 [] 65 true) unknown (6 from 65)
    ∷ ran (Ok tt) (holds 6 [] 0 true) wrong (4 from 6)
    ∷ ran (Ok tt) (holds 0 (outside ∷ []) 0 true) wrong (5 from 8192)
    ∷ ran (Ok tt) (holds 0 [] 65 true) wrong (6 from 65)
    -- 12 before 10 before 11 before what the call's steps meet
    ∷ called (Ok tt) (holds 5 [] 0 true) unknown (12 from 0)
    ∷ called (Ok tt) (holds 5 [] 0 true) (write_owned 4) (10 from 5)
    ∷ called (Ok tt) (lends 5 [] 0) (write_owned 4) (11 from 4)
    ∷ called (Ok tt) (lends 5 [] 0) (write_owned 3) (4 from 5)
    ∷ called (Ok tt) (lends 4 [] 0) (write_owned 3) done
    -- a run: 10 before what its plan refuses
    ∷ ran (Ok tt) (holds 5 [] 0 true) wrong (10 from 5)
    ∷ ran (Ok tt) (lends 5 [] 0) wrong (8 from 1)
    -- a 257th comment would wait: its record
    ∷ called (Ok tt) (lends 0 (replicate 254 good) 0) (ignore 0) done
    ∷ called (Ok tt) (lends 0 (replicate 255 good) 0) (ignore 0) (5 from 2)
    ∷ called (Ok tt) (lends 0 (replicate 256 good) 0) (ignore 0) (5 from 1)
    ∷ called (Ok tt) (lends 0 (replicate 256 good) 0) (ignore 3) done
    ∷ []
