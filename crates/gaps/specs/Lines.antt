-- Entries on lines of their own, and the keys of objects: format.rs 450 to 505, 808 to 823. Assumes nothing.
use Rattle.std.specs.Prelude.{List}
use Rattle.tree.specs.declared.record.Record.{Record}
use Rattle.meaning.specs.declared.call.Hint.TheVariants.{Line}
use Rattle.meaning.specs.declared.call.Call.TheVariants.{Comments, Indent, Nl, Ws}
use Rattle.meaning.specs.Plan.{Plan, make, ◌then◌}
use Rattle.steps.specs.declared.remaining.Mark.TheVariants.{Comma, CloseBrace}
use Rattle.walk.specs.Stream.{Stream}
use Rattle.walk.specs.Flow.{Flow, ◌▸◌, plain, call, write, pump}
use Rattle.steps.specs.Remaining.{Remaining, fmt, put_remaining}

-- in front of the first: a new line, one level in
unfoldable pub open_lines : Plan
open_lines = make (Nl 1) then make (Indent 1)

-- behind each: its comma, which may be missing, and a new line
unfoldable pub end_entry : List Record → Stream → Flow Stream
end_entry rs = put_remaining rs Comma ▸ call (Nl 1)

-- behind the last expression: back out; the byte 255 is one level less
unfoldable pub close_lines : Plan
close_lines = make (Nl 1) then make (Comments Line) then make (Indent 255)

-- ---- keys

unfoldable pub key_line : Stream → Flow Stream
key_line = call (Comments Line) ▸ pump write

-- behind the last: back out, and the brace, which may be missing
unfoldable pub close_keys : List Record → Stream → Flow Stream
close_keys rs = call (Nl 1) ▸ call (Indent 255) ▸ put_remaining rs CloseBrace

-- on one line: behind the comma of the key before it
unfoldable pub next_key : Remaining → Stream → Flow Stream
next_key comma = plain (fmt comma) ▸ call Ws ▸ pump write
