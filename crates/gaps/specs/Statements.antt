-- What stands around statements and blocks: format.rs 867 to 904, 1609 to 1674. Assumes nothing.
use Rattle.std.specs.Prelude.{ℕ, Bool, true, false, not, cond, ◌||◌, List, eqb}
use Rattle.tree.specs.declared.record.Record.{Record}
use Rattle.kinds.specs.declared.Kind.{Kind}
use Rattle.kinds.specs.declared.class.Class.{Class}
use Rattle.kinds.specs.Facts.{class_of, needs_semi}
use Rattle.kinds.specs.Kinds.{kind_of}
use Rattle.meaning.specs.declared.call.Hint.TheVariants.{Line, Prefix, Suffix}
use Rattle.meaning.specs.declared.call.Call.TheVariants.{Comments, Indent, Nl}
use Rattle.meaning.specs.Plan.{Plan, nothing, make, ◌then◌}
use Rattle.steps.specs.declared.remaining.Mark.TheVariants.{SemiColon}
use Rattle.walk.specs.Stream.{Stream, next_is}
use Rattle.walk.specs.Flow.{Flow, flow, write, ignored, expect_byte, expect}
use Rattle.steps.specs.Remaining.{Remaining, is_present, write_if, remaining}

-- ---- lines between statements

abbrev pub is_const : Class → Bool
is_const Class.Const = true
is_const Class.Item = false
is_const Class.Local = false
is_const Class.Other = false
is_const Class.None = false

abbrev pub is_local : Class → Bool
is_local Class.Local = true
is_local Class.Item = false
is_local Class.Const = false
is_local Class.Other = false
is_local Class.None = false

-- by the class of the statement before: a blank line behind an item, and behind a const or a local unless another follows
unfoldable pub lines_of : Class → Class → ℕ
lines_of Class.Item this = 2
lines_of Class.Const this = cond (is_const this) 1 2
lines_of Class.Local this = cond (is_local this) 1 2
lines_of Class.Other this = 1
lines_of Class.None this = 1

-- by the byte of the kind; 00, which no statement has, before the first
unfoldable pub gap : ℕ → ℕ → Plan
gap last kind = cond (eqb last 0) nothing (make (Nl (lines_of (class_of (kind_of last)) (class_of (kind_of kind)))))

-- ---- the semicolon behind a statement: written where it is needed or there, with comments in front

unfoldable pub before_semi : Bool → Remaining → Plan
before_semi needed semi = cond (needed || is_present semi) (make (Comments Suffix)) nothing

unfoldable pub semicolon : List Record → ℕ → Stream → Flow Stream
semicolon rs kind s =
    let z = remaining rs SemiColon s in
    let needed = needs_semi (kind_of kind) in
    flow (z.plan then before_semi needed z.token then write_if needed z.token) z.rest

-- ---- blocks

-- in front of the statements of a block, which is spread over lines or not
unfoldable pub enter : Bool → Plan
enter spread = cond spread (make (Indent 1) then make (Nl 1) then make (Comments Line)) (make (Comments Prefix))

-- behind them
unfoldable pub leave : Bool → Plan
leave spread = cond spread (make (Nl 1) then make (Comments Line) then make (Nl 1) then make (Indent 255)) (make (Comments Suffix))

-- either end of a group: a parenthesis, or the mark of an empty group, which is not written
unfoldable pub group_end : List Record → Bool → ℕ → Stream → Flow Stream
group_end rs empty paren = cond empty (expect rs Kind.OpenEmpty ignored) (expect_byte rs paren write)

-- a block is spread over lines unless it is compact and empty
unfoldable pub is_spread : Bool → Stream → Bool
is_spread compact s = not compact || next_is (λ (k : ℕ). true) s
