-- What a record is to the collector, as the code says it. Assumes nothing.
use Rattle.text.specs.declared.span.Span.{Span}
use Rattle.meaning.specs.Collect.{Met, inner, remark, blank, stop}
use Rattle.queue.specs.declared.collect.Met as met
use Rattle.queue.specs.declared.collect.Met.TheVariants as code

abbrev pub as_met : Span → met.Met → Met
as_met span code.Inner = inner
as_met span (code.Remark line) = remark (record { span = span; line = line })
as_met span (code.Blank n) = blank n
as_met span code.Stop = stop
