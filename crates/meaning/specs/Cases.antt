-- The small sessions P1 to P10 of document 01, as one table. Assumes nothing.
use Rattle.std.specs.Prelude.{ℕ, Bool, true, false, ◌&&◌, List, [], ◌∷◌, ◌++◌, length, replicate, eqb, Ok}
use Rattle.tree.specs.declared.record.Record.{Record}
use Rattle.tree.specs.declared.record.RecordNo.{RecordNo}
use Rattle.tree.specs.Records.{span_of}
use Rattle.meaning.specs.declared.call.Hint.TheVariants.{Prefix}
use Rattle.meaning.specs.declared.call.Call.{Call}
use Rattle.meaning.specs.declared.call.Call.TheVariants.{WriteOwned, WriteRaw, Comments, Indent, Nl, Ws, FlushPrefixComments, Finish}
use Rattle.meaning.specs.State.{Script, Comment}
use Rattle.meaning.specs.World.{World, world, output, Result, result, call}
use Rattle.meaning.specs.Numbers.{Seen, ◌from◌, seen}
use Rattle.width.specs.Count.{counted, width_of}

-- ---- texts

-- // n
abbrev pub note : List ℕ
note = 0x2F ∷ 0x2F ∷ 0x20 ∷ 0x6E ∷ []

-- /* b */
abbrev pub block : List ℕ
block = 0x2F ∷ 0x2A ∷ 0x20 ∷ 0x62 ∷ 0x20 ∷ 0x2A ∷ 0x2F ∷ []

abbrev pub a : List ℕ
a = 0x61 ∷ []

abbrev pub z : List ℕ
z = 0x7A ∷ []

abbrev pub paren : List ℕ
paren = 0x28 ∷ []

abbrev pub sp : List ℕ
sp = 0x20 ∷ []

abbrev pub lf : List ℕ
lf = 0x0A ∷ []

-- ---- one script for P4 to P10: the line comment, the block comment and the two tokens, in this order

abbrev pub leaf : ℕ → ℕ → ℕ → Record
leaf kind start end = record { whole = true; kind = kind; span = span_of start end; below = 0 }

abbrev pub script : Script
script = record { source = note ++ block ++ a ++ z; tree = leaf 1 0 4 ∷ leaf 2 4 11 ∷ leaf 3 11 12 ∷ leaf 3 12 13 ∷ [] }

abbrev pub record_no : ℕ → RecordNo
record_no i = record { 0 = i }

abbrev pub line_note : ℕ → Comment
line_note before = record { span = span_of 0 4; before = before; line = true }

abbrev pub block_note : Comment
block_note = record { span = span_of 4 11; before = 0; line = false }

-- an engine whose output, queue and `lines` are these, over a buffer with room for 32 bytes more
abbrev pub engine : List ℕ → List Comment → ℕ → World
engine out queue lines =
    world (record { len = length out; queue = queue; lines = lines; use_lines = false; ws = false; indent = 0; finished = false })
    (out ++ replicate 32 0)

-- ---- the cases

pub data Case : Type 0 where
  -- a text of one span, a limit: how wide is it, counted up to one above the limit?
  wide : List ℕ → ℕ → ℕ → Case
  -- an engine and calls: what is answered to the last, what is then the output, and how many wait
  session : World → List Call → Seen → List ℕ → ℕ → Case

abbrev pub same : List ℕ → List ℕ → Bool
same [] [] = true
same [] (b ∷ bs) = false
same (a ∷ as') [] = false
same (a ∷ as') (b ∷ bs) = eqb a b && same as' bs

-- calls one by one; the answer is the last one's
unfoldable pub calls : Result → List Call → Result
calls r [] = r
calls r (c ∷ cs) = calls (call (Ok tt) script r.left c) cs

abbrev pub fits : Result → Seen → List ℕ → ℕ → Bool
fits r s out n =
    eqb (seen r.answer).number s.number
    && (eqb (seen r.answer).place s.place
    && (same (output r.left) out
    && eqb (length r.left.state.queue) n))

unfoldable pub passes : Case → Bool
unfolding counted width_of
passes (wide bs limit n) = eqb (width_of bs (span_of 0 (length bs)) limit) n
passes (session w cs s out n) = fits (calls (result (Ok tt) w) cs) s out n

abbrev pub all_pass : List Case → Bool
all_pass [] = true
all_pass (c ∷ cs) = passes c && all_pass cs

abbrev pub done : Seen
done = 0 from 0

-- P1 to P10, in order
abbrev pub table : List Case
table =
    wide (replicate 80 0x61) 80 80
    ∷ wide (replicate 81 0x61) 80 81
    ∷ wide (replicate 80 0x61 ++ (0xE3 ∷ 0x80 ∷ 0x80 ∷ [])) 80 80
    ∷ session (engine a (line_note 0 ∷ []) 0) (Nl 1 ∷ []) done (a ++ sp ++ note) 0
    ∷ session (engine a (line_note 1 ∷ []) 0) (Nl 1 ∷ []) done a 1
    ∷ session (engine a (line_note 0 ∷ block_note ∷ []) 0) (Ws ∷ []) done a 2
    ∷ session (engine paren (block_note ∷ []) 0) (Comments Prefix ∷ []) done (paren ++ block ++ sp) 0
    ∷ session (engine [] [] 0) (Indent 0xFF ∷ []) (6 from 0) [] 0
    ∷ session (engine [] [] 0) (Ws ∷ WriteOwned (record_no 2) ∷ []) done (sp ++ a) 0
    ∷ session (engine a [] 5) (Nl 1 ∷ WriteOwned (record_no 3) ∷ []) done (a ++ lf ++ lf ++ z) 0
    ∷ []

-- sessions of our own
abbrev pub more : List Case
more =
    -- a finish lets out all that waits, and nothing is served behind it
    session (engine a (line_note 1 ∷ block_note ∷ []) 0) (Finish ∷ []) done (a ++ lf ++ note ++ sp ++ block) 0
    ∷ session (engine [] [] 0) (Finish ∷ Nl 0 ∷ []) (10 from 0) [] 0
    -- a comment behind a text is collected by the call that writes the text, and waits
    ∷ session (engine [] [] 0) (WriteOwned (record_no 0) ∷ []) done note 1
    -- the comments in front of a script
    ∷ session (engine [] [] 0) (FlushPrefixComments ∷ []) done (note ++ sp ++ block) 0
    ∷ session (engine [] [] 0) (WriteRaw (record_no 4) ∷ []) (11 from 4) [] 0
    ∷ []
