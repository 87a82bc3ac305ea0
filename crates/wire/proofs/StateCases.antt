-- The table of worked states holds, computed by antt. Assumes nothing.
use lib.Dec.{T}
use Rattle.tree.specs.Records.{four}
use Rattle.lent.specs.View.{tab, slot_words, slots_of}
use Rattle.wire.specs.Words.{word_at, word_bytes, in_bytes}
use Rattle.wire.specs.StateBytes.{line_flags, shaped, state_in, bytes_of}
use Rattle.wire.specs.StateCases as cases

pub all_pass : T (cases.all_hold cases.table)
unfolding four tab slot_words slots_of word_at word_bytes in_bytes line_flags shaped state_in bytes_of cases.holds
all_pass = tt
