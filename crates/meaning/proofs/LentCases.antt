-- The table of the checks on what is lent holds, computed by antt. Assumes nothing.
use lib.Dec.{T}
use Rattle.encoding.specs.Utf8.{table, all_in, len_by, char_len}
use Rattle.text.specs.Chars.{starts, in_source}
use Rattle.text.specs.Lines.{newlines}
use Rattle.text.specs.Trim.{trim_from}
use Rattle.tree.specs.Records.{four}
use Rattle.tree.specs.Table.{node_of}
use Rattle.tree.specs.Cursor as cursor
use Rattle.meaning.specs.Pieces.{breaks}
use Rattle.meaning.specs.Outcome.{refuse_if}
use Rattle.meaning.specs.Collect.{met_of, collect, gather}
use Rattle.meaning.specs.Release.{line_pieces, space_pieces}
use Rattle.meaning.specs.Calls.{signed, act, step}
use Rattle.meaning.specs.CallRecord.{decode}
use Rattle.meaning.specs.Lent.{lent_state, serve_record}
use Rattle.meaning.specs.World.{call_record}
use Rattle.meaning.specs.Plan.{exec, zeroed, ready, run}
use Rattle.meaning.specs.LentCases as lent

pub all_pass : T (lent.all_hold lent.table)
unfolding four node_of cursor.behind table all_in len_by char_len starts in_source trim_from newlines breaks refuse_if met_of collect gather line_pieces space_pieces signed act step decode lent_state serve_record call_record exec zeroed ready run lent.holds_true
all_pass = tt
