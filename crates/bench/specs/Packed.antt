-- Answers as one number of 64 bits. Assumes nothing.
use Rattle.std.specs.Prelude.{ℕ, ◌+◌, ◌*◌, ◌%◌, Ok, Err}
use Rattle.encoding.specs.Utf8.{Formed}
use Rattle.meaning.specs.Answer.{Answer}
use Rattle.meaning.specs.Numbers.{Seen, seen}

-- the number above the low 32 bits of the place
abbrev pub packed : Seen → ℕ
packed s = s.number * 0x100000000 + s.place % 0x100000000

-- all ones for a well-formed text, else the place
abbrev pub found : Formed → ℕ
found (Ok u) = 0xFFFFFFFFFFFFFFFF
found (Err e) = e.at

-- the low 32 bits of the output's length, or the refusal
abbrev pub reached_as : Answer → ℕ → ℕ
reached_as (Ok tt) len = len % 0x100000000
reached_as (Err e) len = packed (seen (Err e))
