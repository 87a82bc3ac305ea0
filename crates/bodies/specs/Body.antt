-- Structs and enums: format.rs 1305 to 1439. Assumes nothing.
use Rattle.std.specs.Prelude.{ℕ, Bool, true, false, cond, List}
use Rattle.tree.specs.declared.record.Record.{Record}
use Rattle.tree.specs.declared.record.RecordNo.{RecordNo}
use Rattle.kinds.specs.declared.Kind.{Kind}
use Rattle.meaning.specs.declared.call.Hint.TheVariants.{Line, Suffix}
use Rattle.meaning.specs.declared.call.Literal.TheVariants.{Braces}
use Rattle.meaning.specs.declared.call.Call.TheVariants.{Comments, Indent, Nl, Ws, Lit}
use Rattle.meaning.specs.declared.answer.Refusal.TheVariants.{WrongKind}
use Rattle.meaning.specs.Plan.{Plan, nothing, make, refuse, ◌then◌}
use Rattle.steps.specs.declared.remaining.Mark.TheVariants.{Comma}
use Rattle.walk.specs.Stream.{Stream}
use Rattle.walk.specs.Flow.{Flow, ◌▸◌, plain, call, write, spaced, pump, expect, eat, if_next, is, parse}
use Rattle.steps.specs.Seen.{each, lastly}
use Rattle.steps.specs.Remaining.{put_remaining}
use Rattle.steps.specs.Items.{list}

-- a field's one node
unfoldable pub field : List Record → RecordNo → Plan
field rs = parse rs (pump write)

unfoldable pub tuple_body : List Record → Stream → Flow Stream
tuple_body rs = expect rs Kind.OpenParenthesis write ▸ list rs (is rs Kind.Field) (field rs) ▸ expect rs Kind.CloseParenthesis write ▸ call (Comments Suffix)

-- ---- items on lines of their own

unfoldable pub lined : List Record → (RecordNo → Plan) → Bool → Stream → Flow Stream
lined rs rule any = plain (make (Nl 1) then make (Comments Line)) ▸ pump rule ▸ put_remaining rs Comma

-- a new line behind the last, but none where there was no item
abbrev pub lines : Bool → ℕ
lines true = 1
lines false = 0

-- back out: the byte 255 is one level less
unfoldable pub line_end : Bool → Plan
line_end any = make (Comments Line) then make (Nl (lines any)) then make (Indent 255)

unfoldable pub struct_body : List Record → Stream → Flow Stream
struct_body rs =
    expect rs Kind.OpenBrace write ▸ call (Indent 1) ▸ call (Comments Line) ▸ each (is rs Kind.Field) (lined rs (field rs)) ▸ lastly line_end ▸ expect rs Kind.CloseBrace write

-- ---- the body of a struct or of a variant

unfoldable pub body : List Record → RecordNo → Plan
body rs k =
    cond (is rs Kind.StructBody k.0) (make Ws then parse rs (struct_body rs) k)
    (cond (is rs Kind.TupleBody k.0) (parse rs (tuple_body rs) k)
    (cond (is rs Kind.EmptyBody k.0) nothing
    (refuse (WrongKind k))))

unfoldable pub variant : List Record → Stream → Flow Stream
variant rs = call (Comments Line) ▸ eat rs Kind.Ident write ▸ pump (body rs)

unfoldable pub item_struct : List Record → Stream → Flow Stream
item_struct rs = expect rs Kind.Struct write ▸ eat rs Kind.Ident spaced ▸ pump (body rs)

-- ---- enums

unfoldable pub variants : List Record → Stream → Flow Stream
variants rs =
    pump write ▸ call (Indent 1) ▸ each (is rs Kind.Variant) (lined rs (parse rs (variant rs))) ▸ lastly line_end ▸ expect rs Kind.CloseBrace write

-- an enum without a brace gets both
unfoldable pub enum_body : List Record → Stream → Flow Stream
enum_body rs = if_next (is rs Kind.OpenBrace) (variants rs) (call (Lit Braces))

unfoldable pub item_enum : List Record → Stream → Flow Stream
item_enum rs = expect rs Kind.Enum write ▸ eat rs Kind.Ident spaced ▸ call Ws ▸ enum_body rs
