-- The arguments of closures and functions, and what a `let` binds: format.rs 227 to 231, 968 to 972, 1044 to 1051, 1138 to 1167, 1449 to 1451. Assumes nothing.
use Rattle.std.specs.Prelude.{ℕ, Bool, true, false, List}
use Rattle.tree.specs.declared.record.Record.{Record}
use Rattle.kinds.specs.declared.Kind.{Kind}
use Rattle.kinds.specs.Facts.{byte_of}
use Rattle.meaning.specs.declared.call.Literal.TheVariants.{Bars, Parens}
use Rattle.meaning.specs.declared.call.Hint.TheVariants.{Line}
use Rattle.meaning.specs.declared.call.Call.TheVariants.{Comments, Nl, Lit}
use Rattle.walk.specs.Stream.{Stream}
use Rattle.walk.specs.Flow.{Flow, ◌▸◌, call, write, pump, expect, if_next, is, parse}
use Rattle.steps.specs.Items.{list}
use Rattle.patterns.specs.Pattern.{pat, fn_args}
use Rattle.parts.specs.Spaced.{word, between}

-- in a select
unfoldable pub default_or_pat : List Record → Stream → Flow Stream
default_or_pat rs = if_next (is rs Kind.Default) (expect rs Kind.Default write) (expect rs Kind.Pat (pat rs 64))

-- in a match, on a line of its own
unfoldable pub case_pat : List Record → Stream → Flow Stream
case_pat rs = call (Nl 1) ▸ call (Comments Line) ▸ expect rs Kind.Pat (pat rs 64)

abbrev pub arm_pat : List Record → Bool → Stream → Flow Stream
arm_pat rs true = case_pat rs
arm_pat rs false = default_or_pat rs

-- the token in front of what may stand between the pattern and `=>`: a guard in a match, a value in a select
abbrev pub guard_kind : Bool → ℕ
guard_kind true = byte_of Kind.If
guard_kind false = byte_of Kind.Eq

-- `||`, or patterns between two bars
unfoldable pub barred : List Record → Stream → Flow Stream
barred rs = if_next (is rs Kind.PipePipe) (pump write) (expect rs Kind.Pipe write ▸ list rs (is rs Kind.Pat) (pat rs 64) ▸ expect rs Kind.Pipe write)

-- those of a closure; `||` where there are none
unfoldable pub closure_args : List Record → Stream → Flow Stream
closure_args rs = if_next (is rs Kind.ClosureArguments) (pump (parse rs (barred rs))) (call (Lit Bars))

-- those of a function; `()` where there are none
unfoldable pub args_of : List Record → Stream → Flow Stream
args_of rs = if_next (is rs Kind.FnArgs) (pump (parse rs (fn_args rs))) (call (Lit Parens))

-- `let`, a pattern, `=`
unfoldable pub let_pat : List Record → Stream → Flow Stream
let_pat rs = word rs (byte_of Kind.Let) ▸ expect rs Kind.Pat (pat rs 64) ▸ between rs (byte_of Kind.Eq)

-- `for`, a pattern, `in`
unfoldable pub for_in : List Record → Stream → Flow Stream
for_in rs = word rs (byte_of Kind.For) ▸ expect rs Kind.Pat (pat rs 64) ▸ between rs (byte_of Kind.In)
