-- A token that may be missing: `remaining` takes none or one, and it is written, or its literal is, or it is passed over. Assumes nothing.
use Rattle.std.specs.Prelude.{◌≡◌, ℕ, Bool, true, false, cond, ◌||◌, List, Option, Some, None}
use Rattle.tree.specs.declared.record.Record.{Record}
use Rattle.tree.specs.declared.record.RecordNo.{RecordNo}
use Rattle.kinds.specs.declared.Kind.{Kind}
use Rattle.meaning.specs.declared.call.Call.TheVariants.{Lit}
use Rattle.meaning.specs.declared.call.Literal.{Literal}
use Rattle.meaning.specs.declared.call.Literal.TheVariants as literal
use Rattle.meaning.specs.State.{Script}
use Rattle.meaning.specs.Plan.{Plan, nothing, make, ◌then◌}
use Rattle.lent.specs.declared.formatter.Formatter.{Formatter}
use Rattle.lent.specs.Loans.{Loan, MutLoan, FormatterLoan, script, Engine, before, after, Makes, Made, Refuses}
use Rattle.steps.specs.declared.remaining.Mark.{Mark}
use Rattle.steps.specs.declared.remaining.Mark.TheVariants.{Comma, SemiColon, Colon, CloseBrace}
use Rattle.steps.specs.declared.remaining.Remaining as code
use Rattle.steps.specs.declared.remaining.Remaining.TheVariants as held
use Rattle.walk.specs.Stream.{Stream, next_is, take_if, tree, StreamMutLoan, stream_in, stream_out}
use Rattle.walk.specs.Flow.{Flow, flow, write, ignored, is, not_met}

-- a fresh one stands before the first item of a list
pub data Remaining : Type 0 where
  Fresh : Remaining
  Missing : Mark → Remaining
  Present : RecordNo → Remaining

-- ---- the marks that may be missing

abbrev pub token_of : Mark → Kind
token_of Comma = Kind.Comma
token_of SemiColon = Kind.SemiColon
token_of Colon = Kind.Colon
token_of CloseBrace = Kind.CloseBrace

abbrev pub literal_of : Mark → Literal
literal_of Comma = literal.Comma
literal_of SemiColon = literal.Semicolon
literal_of Colon = literal.Colon
literal_of CloseBrace = literal.CloseBrace

abbrev pub is_mark : List Record → Mark → ℕ → Bool
is_mark rs m k = is rs (token_of m) k

-- ---- what is done with one

-- the token, or the literal if it is missing
unfoldable pub fmt : Remaining → Plan
fmt Fresh = nothing
fmt (Missing m) = make (Lit (literal_of m))
fmt (Present k) = write k

-- nothing is written; what stands behind the token is collected
unfoldable pub ignore : Remaining → Plan
ignore Fresh = nothing
ignore (Missing m) = nothing
ignore (Present k) = ignored k

-- what `fmt` and `ignore` say: a fresh one does nothing and says no
unfoldable pub says : Remaining → Bool
says Fresh = false
says (Missing m) = true
says (Present k) = true

unfoldable pub is_present : Remaining → Bool
is_present Fresh = false
is_present (Missing m) = false
is_present (Present k) = true

-- written if it is needed or there
unfoldable pub write_if : Bool → Remaining → Plan
write_if needed r = cond (needed || is_present r) (fmt r) nothing

-- `fmt` for yes, `ignore` for no
unfoldable pub write_only_if : Bool → Remaining → Plan
write_only_if wanted r = cond wanted (fmt r) (ignore r)

-- ---- taking one

pub record Rest : Type 0 where
  pub plan : Plan
  pub token : Remaining
  pub rest : Stream

-- a second one is refusal 8, at it
unfoldable pub second : List Record → Mark → Stream → Plan
second rs m s = cond (next_is (is_mark rs m) s) (not_met s) nothing

unfoldable pub rest_if : List Record → Mark → Option RecordNo → Stream → Rest
rest_if rs m (Some k) s = record { plan = second rs m s; token = Present k; rest = s }
rest_if rs m None s = record { plan = nothing; token = Missing m; rest = s }

unfoldable pub remaining : List Record → Mark → Stream → Rest
remaining rs m s = let t = take_if (is_mark rs m) s in rest_if rs m t.found t.rest

-- `p.remaining(fmt, K)?.fmt(fmt)?`
unfoldable pub put_remaining : List Record → Mark → Stream → Flow Stream
put_remaining rs m s = let z = remaining rs m s in flow (z.plan then fmt z.token) z.rest

-- ---- in the code: the mark is the one that the function is given

unfoldable pub remaining_of : Mark → code.Remaining → Remaining
remaining_of m held.Fresh = Fresh
remaining_of m held.Missing = Missing m
remaining_of m (held.There k) = Present k

-- it was taken so
pub record Rests (rs : List Record) (m : Mark) (s : Stream) (w w' : Formatter) (r : Remaining) (s' : Stream) : Type 0 where
  pub ran : Refuses (remaining rs m s).plan w w'
  pub token : r ≡ (remaining rs m s).token
  pub rest : s' ≡ (remaining rs m s).rest

abbrev pub Rested : Loan → FormatterLoan → StreamMutLoan → Mark → code.Remaining → Type 0
Rested table fmt p m r = Rests (tree table) m (stream_in table p) fmt.entry.now fmt.exit.now (remaining_of m r) (stream_out table p)

-- and something was done behind it
pub record RestsWith (x : Script) (rs : List Record) (m : Mark) (g : Remaining → Plan) (s : Stream) (e e' : Engine) (r : Remaining) (s' : Stream) : Type 0 where
  pub ran : Makes x ((remaining rs m s).plan then g (remaining rs m s).token) e e'
  pub token : r ≡ (remaining rs m s).token
  pub rest : s' ≡ (remaining rs m s).rest

abbrev pub RestedWith : Loan → Loan → FormatterLoan → MutLoan → MutLoan → StreamMutLoan → Mark → (Remaining → Plan) → code.Remaining → Type 0
RestedWith src table fmt queue out p m g r =
    RestsWith (script src table) (tree table) m g (stream_in table p) (before fmt queue out) (after fmt queue out) (remaining_of m r) (stream_out table p)

-- whatever the mark is
abbrev pub Tells : (Remaining → Bool) → code.Remaining → Bool → Type 0
Tells f r t = (m : Mark) → t ≡ f (remaining_of m r)

abbrev pub MadeOf : Loan → Loan → FormatterLoan → MutLoan → MutLoan → (Remaining → Plan) → code.Remaining → Type 0
MadeOf src table fmt queue out g r = (m : Mark) → Made src table fmt queue out (g (remaining_of m r))
