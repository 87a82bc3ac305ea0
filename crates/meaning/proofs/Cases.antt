-- Worked cases of the definitions, computed by antt. Assumes nothing.
use Rattle.std.specs.Prelude.{Ok, Err}
use mathlib.Core.Path.{◌≡◌, refl}
use mathlib.Core.Bool.{true, false}
use mathlib.Core.List.{[], ◌∷◌, map}
use mathlib.Core.Option.{none, some}
use lib.Dec.{T}
use Rattle.white.specs.White.{mem, whites, is_white}
use Rattle.encoding.specs.Utf8.{table, all_in, len_by, char_len}
use Rattle.text.specs.Chars.{starts, in_source, code, chars_from}
use Rattle.width.specs.Count.{dark, counted, width_of}
use Rattle.text.specs.Lines.{newlines}
use Rattle.text.specs.Trim.{trim_from}
use Rattle.tree.specs.Records.{four}
use Rattle.tree.specs.Table.{node_of}
use Rattle.tree.specs.Cursor as cursor
use Rattle.meaning.specs.declared.call.Hint.TheVariants.{Line, Infix}
use Rattle.meaning.specs.declared.call.Literal.TheVariants.{Braces, Colon}
use Rattle.meaning.specs.declared.call.Call.TheVariants.{WriteOwned, WriteRaw, Ignore, Lit, Comments, Indent, Nl, Ws, FlushWhitespace, FlushPrefixComments, Finish}
use Rattle.meaning.specs.declared.answer.Refusal.TheVariants.{WrongKind}
use Rattle.meaning.specs.Pieces.{breaks}
use Rattle.meaning.specs.Outcome.{refuse_if}
use Rattle.meaning.specs.Collect.{met_of, collect, gather}
use Rattle.meaning.specs.Release.{line_pieces, space_pieces}
use Rattle.meaning.specs.Calls.{signed, act, step}
use Rattle.meaning.specs.CallRecord.{decode}
use Rattle.meaning.specs.Lent.{lent_state, serve}
use Rattle.meaning.specs.World.{World, world, result, call}
use Rattle.meaning.specs.Plan.{Plan, make, refuse, ◌then◌, exec, zeroed, ready, run}
use Rattle.meaning.specs.Cases as cases

-- P1 to P10 hold
pub all_pass : T (cases.all_pass cases.table)
unfolding node_of cursor.behind mem whites is_white table all_in len_by char_len starts in_source code chars_from dark trim_from newlines breaks refuse_if met_of collect gather line_pieces space_pieces signed act step lent_state serve call counted width_of cases.calls cases.passes
all_pass = tt

pub more_pass : T (cases.all_pass cases.more)
unfolding node_of cursor.behind mem whites is_white table all_in len_by char_len starts in_source code chars_from dark trim_from newlines breaks refuse_if met_of collect gather line_pieces space_pieces signed act step lent_state serve call counted width_of cases.calls cases.passes
more_pass = tt

-- one call record of each kind, with the first and the last value of those that are listed
reads : map decode (
    (0x01 ∷ 0x02 ∷ 0x01 ∷ 0x00 ∷ 0x00 ∷ [])
    ∷ (0x02 ∷ 0x00 ∷ 0x00 ∷ 0x01 ∷ 0x00 ∷ [])
    ∷ (0x03 ∷ 0xFF ∷ 0xFF ∷ 0xFF ∷ 0xFF ∷ [])
    ∷ (0x04 ∷ 0x00 ∷ [])
    ∷ (0x04 ∷ 0x07 ∷ [])
    ∷ (0x05 ∷ 0x00 ∷ [])
    ∷ (0x05 ∷ 0x03 ∷ [])
    ∷ (0x06 ∷ 0xFF ∷ [])
    ∷ (0x07 ∷ 0x02 ∷ [])
    ∷ (0x08 ∷ [])
    ∷ (0x09 ∷ 0x00 ∷ [])
    ∷ (0x09 ∷ 0x01 ∷ [])
    ∷ (0x0A ∷ [])
    ∷ (0x0B ∷ [])
    ∷ [])
    ≡ some (WriteOwned (cases.record_no 258))
    ∷ some (WriteRaw (cases.record_no 65536))
    ∷ some (Ignore (cases.record_no 4294967295))
    ∷ some (Lit Braces)
    ∷ some (Lit Colon)
    ∷ some (Comments Line)
    ∷ some (Comments Infix)
    ∷ some (Indent 0xFF)
    ∷ some (Nl 2)
    ∷ some Ws
    ∷ some (FlushWhitespace false)
    ∷ some (FlushWhitespace true)
    ∷ some FlushPrefixComments
    ∷ some Finish
    ∷ []
unfolding decode four
reads = refl

-- unknown kinds; cut; bytes behind; body values that are not listed
refuses : map decode (
    (0x00 ∷ [])
    ∷ (0x0C ∷ [])
    ∷ []
    ∷ (0x01 ∷ 0x02 ∷ 0x00 ∷ 0x00 ∷ [])
    ∷ (0x04 ∷ [])
    ∷ (0x06 ∷ [])
    ∷ (0x03 ∷ 0x02 ∷ 0x00 ∷ 0x00 ∷ 0x00 ∷ 0x00 ∷ [])
    ∷ (0x05 ∷ 0x00 ∷ 0x00 ∷ [])
    ∷ (0x07 ∷ 0x01 ∷ 0x01 ∷ [])
    ∷ (0x0B ∷ 0x00 ∷ [])
    ∷ (0x04 ∷ 0x08 ∷ [])
    ∷ (0x05 ∷ 0x04 ∷ [])
    ∷ (0x09 ∷ 0x02 ∷ [])
    ∷ []) ≡ none ∷ none ∷ none ∷ none ∷ none ∷ none ∷ none ∷ none ∷ none ∷ none ∷ none ∷ none ∷ none ∷ []
unfolding decode
refuses = refl

-- ---- runs: one that goes, and one that is refused behind two calls, over a buffer with other bytes in it

plan : Plan
plan = make Ws then make (WriteOwned (cases.record_no 3))

start : World
start = world (cases.engine cases.a [] 0).state (0x61 ∷ 0x7E ∷ 0x7E ∷ 0x7E ∷ 0x7E ∷ [])

goes : (run (Ok tt) cases.script start plan).left.buffer ≡ 0x61 ∷ 0x20 ∷ 0x7A ∷ 0x7E ∷ 0x7E ∷ []
unfolding node_of cursor.behind table all_in len_by char_len starts in_source newlines breaks refuse_if trim_from met_of collect gather line_pieces space_pieces signed act step lent_state ready exec run plan start
goes = refl

breaks_off : run (Ok tt) cases.script start (plan then refuse (WrongKind (cases.record_no 3)) then make Finish)
    ≡ result (Err (WrongKind (cases.record_no 3))) (world start.state (0x61 ∷ 0x00 ∷ 0x00 ∷ 0x00 ∷ 0x00 ∷ []))
unfolding node_of cursor.behind table all_in len_by char_len starts in_source newlines breaks refuse_if trim_from met_of collect gather line_pieces space_pieces signed act step lent_state ready exec run zeroed plan start
breaks_off = refl
