-- The text that a call writes, as a part of the source or of the list of literals. Assumes nothing.
use Rattle.std.specs.Prelude.{List, ℕ}
use Rattle.text.specs.declared.span.Span.{Span}
use Rattle.text.specs.Span.{text_of}
use Rattle.tree.specs.Records.{span_of}
use Rattle.meaning.specs.declared.call.Literal.{Literal}
use Rattle.meaning.specs.declared.call.Literal.TheVariants.{Braces, Bars, Parens, OpenBrace, CloseBrace, Comma, Semicolon, Colon}
use Rattle.lent.specs.declared.wording.Wording.{Wording}
use Rattle.lent.specs.declared.wording.Wording.TheVariants as wording

abbrev pub lit_span : Literal → Span
lit_span Braces = span_of 0 2
lit_span Bars = span_of 2 4
lit_span Parens = span_of 4 6
lit_span OpenBrace = span_of 6 7
lit_span CloseBrace = span_of 7 8
lit_span Comma = span_of 8 9
lit_span Semicolon = span_of 9 10
lit_span Colon = span_of 10 11

abbrev pub wording_of : List ℕ → List ℕ → Wording → List ℕ
wording_of source literals (wording.Node span) = text_of source span
wording_of source literals (wording.Literal l) = text_of literals (lit_span l)
