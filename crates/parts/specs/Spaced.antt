-- Tokens with spaces, and the Rust's Expr, which has two kinds here. Assumes nothing.
use Rattle.std.specs.Prelude.{ℕ, Bool, true, cond, List, eqb}
use Rattle.tree.specs.declared.record.Record.{Record}
use Rattle.tree.specs.declared.record.RecordNo.{RecordNo}
use Rattle.kinds.specs.declared.Kind.{Kind}
use Rattle.kinds.specs.Facts.{byte_of}
use Rattle.meaning.specs.declared.call.Call.TheVariants.{Ws}
use Rattle.meaning.specs.Plan.{Plan}
use Rattle.lent.specs.Loans.{Loan, FormatterLoan}
use Rattle.walk.specs.Stream.{Stream, take_if, tree, stream_in, stream_out, StreamMutLoan}
use Rattle.walk.specs.Flow.{Flow, ◌▸◌, call, write, given, not_met, expect_byte, either, is, Got}

-- an expression, whether it needs a semicolon or not
unfoldable pub is_expr : List Record → ℕ → Bool
is_expr rs = either (is rs Kind.Expr) (is rs Kind.ExprSemi)

-- `p.expect(Expr)?.parse(..)`
unfoldable pub expect_expr : List Record → (RecordNo → Plan) → Stream → Flow Stream
expect_expr rs f s = given (take_if (is_expr rs) s) f (not_met s)

abbrev pub ExpectedExpr : Loan → FormatterLoan → StreamMutLoan → RecordNo → Type 0
ExpectedExpr table fmt p k = Got (take_if (is_expr (tree table)) (stream_in table p)) (stream_in table p) fmt.entry.now fmt.exit.now k (stream_out table p)

-- behind `if` an expression, behind any other token (`=`) any node
unfoldable pub is_guard : List Record → ℕ → ℕ → Bool
is_guard rs kind = cond (eqb kind (byte_of Kind.If)) (is_expr rs) (λ (k : ℕ). true)

unfoldable pub expect_guard : List Record → ℕ → (RecordNo → Plan) → Stream → Flow Stream
expect_guard rs kind f s = given (take_if (is_guard rs kind) s) f (not_met s)

abbrev pub TookGuard : Loan → FormatterLoan → StreamMutLoan → ℕ → RecordNo → Type 0
TookGuard table fmt p kind k =
    Got (take_if (is_guard (tree table) kind) (stream_in table p)) (stream_in table p) fmt.entry.now fmt.exit.now k (stream_out table p)

-- a token and a space
unfoldable pub word : List Record → ℕ → Stream → Flow Stream
word rs kind = expect_byte rs kind write ▸ call Ws

-- a token between spaces
unfoldable pub between : List Record → ℕ → Stream → Flow Stream
between rs kind = call Ws ▸ expect_byte rs kind write ▸ call Ws
