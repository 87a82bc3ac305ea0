-- Spans of a source. Assumes nothing.
use Rattle.std.specs.Prelude.{ℕ, ◌-◌, min, max, List, take, drop}
use Rattle.text.specs.declared.span.BytePos.{BytePos}
use Rattle.text.specs.declared.span.Span.{Span}

-- the empty span at the start
abbrev pub head_of : Span → Span
head_of a = record { start = a.start; end = a.start }

abbrev pub earlier : BytePos → BytePos → BytePos
earlier a b = record { 0 = min a.0 b.0 }

abbrev pub later : BytePos → BytePos → BytePos
later a b = record { 0 = max a.0 b.0 }

-- from the earlier start to the later end
abbrev pub joined : Span → Span → Span
joined a b = record { start = earlier a.start b.start; end = later a.end b.end }

-- the bytes from place start up to place end
abbrev pub between : List ℕ → ℕ → ℕ → List ℕ
between s start end = take (end - start) (drop start s)

abbrev pub text_of : List ℕ → Span → List ℕ
text_of s a = between s a.start.0 a.end.0
