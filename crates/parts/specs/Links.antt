-- The links of a chain that lead to no expression, and the line breaks between links: format.rs 1231 to 1281. Assumes nothing.
use Rattle.std.specs.Prelude.{ℕ, cond, List, eqb, ltb}
use Rattle.tree.specs.declared.record.Record.{Record}
use Rattle.tree.specs.declared.record.RecordNo.{RecordNo}
use Rattle.tree.specs.Table.{node_of}
use Rattle.kinds.specs.declared.Kind.{Kind}
use Rattle.meaning.specs.declared.call.Hint.TheVariants.{Prefix, Suffix}
use Rattle.meaning.specs.declared.call.Call.TheVariants.{Comments, Indent, Nl}
use Rattle.meaning.specs.Plan.{Plan, nothing, make, ◌then◌}
use Rattle.walk.specs.Stream.{Stream}
use Rattle.walk.specs.Flow.{Flow, ◌▸◌, call, write, pump, expect, if_next, is}
use Rattle.paths.specs.Path.{path}
use Rattle.loose.specs.Chain.{is_dot}

unfoldable pub tried : List Record → Stream → Flow Stream
tried rs = expect rs Kind.QuestionMark write

unfoldable pub awaited : List Record → Stream → Flow Stream
awaited rs = expect rs Kind.Dot write ▸ expect rs Kind.Await write

-- a number or a path
unfoldable pub field_of : List Record → Stream → Flow Stream
field_of rs = expect rs Kind.Dot write ▸ if_next (is rs Kind.Number) (pump write) (expect rs Kind.Path (path rs 64))

-- around the value of an index
unfoldable pub open_index : List Record → Stream → Flow Stream
open_index rs = expect rs Kind.OpenBracket write ▸ call (Comments Prefix)

unfoldable pub close_index : List Record → Stream → Flow Stream
close_index rs = call (Comments Suffix) ▸ expect rs Kind.CloseBracket write

-- the first link on a new line indents
unfoldable pub indent_first : ℕ → ℕ → Plan
indent_first from n = cond (eqb n from) (make (Indent 1)) nothing

-- before link n, where the chain breaks from a link on: a field or an await stands on a line of its own
unfoldable pub break_link : List Record → ℕ → ℕ → RecordNo → Plan
break_link rs from n k = cond (ltb n from) nothing (indent_first from n then cond (is_dot (node_of rs k.0).kind) (make (Nl 1)) nothing)

-- behind n links: back out, where one indented
unfoldable pub chain_end : ℕ → ℕ → Plan
chain_end from n = cond (ltb from n) (make (Indent 255)) nothing
