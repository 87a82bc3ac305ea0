-- A step of a rule: the calls that it makes, and where it leaves the stream, or whatever else the steps hand on. Assumes nothing.
use Rattle.std.specs.Prelude.{◌≡◌, ℕ, Bool, cond, ◌||◌, List, [], ◌∷◌, Option, Some, None}
use Rattle.tree.specs.declared.record.Record.{Record}
use Rattle.tree.specs.declared.record.RecordNo.{RecordNo}
use Rattle.kinds.specs.declared.Kind.{Kind}
use Rattle.kinds.specs.Facts.{byte_of}
use Rattle.meaning.specs.declared.call.Call.{Call}
use Rattle.meaning.specs.declared.call.Call.TheVariants.{WriteOwned, Ignore, Ws}
use Rattle.meaning.specs.declared.answer.Refusal.TheVariants.{WrongKind}
use Rattle.meaning.specs.State.{Script}
use Rattle.meaning.specs.Plan.{Plan, nothing, make, refuse, ◌then◌}
use Rattle.lent.specs.declared.formatter.Formatter.{Formatter}
use Rattle.lent.specs.Loans.{Loan, MutLoan, FormatterLoan, script, Engine, before, after, Makes, Refuses}
use Rattle.walk.specs.Stream.{Stream, records_of, no, is_byte, next_is, met, Took, take_if, take_any, tree, StreamLoan, StreamMutLoan, stream_here, stream_in, stream_out}

pub record Flow (S : Type 0) : Type 0 where
  pub plan : Plan
  pub rest : S

abbrev pub flow : {S : Type 0} → Plan → S → Flow S
flow p s = record { plan = p; rest = s }

-- one step behind the other
infixr 30 ◌▸◌
unfoldable pub ◌▸◌ : {S T U : Type 0} → (S → Flow T) → (T → Flow U) → S → Flow U
(f ▸ g) s = flow ((f s).plan then (g (f s).rest).plan) (g (f s).rest).rest

-- a plan that takes no record
unfoldable pub plain : {S : Type 0} → Plan → S → Flow S
plain p s = flow p s

-- a call of the engine
abbrev pub call : {S : Type 0} → Call → S → Flow S
call c = plain (make c)

-- ---- a node: written whole, or passed over with what stands behind it collected

abbrev pub write : RecordNo → Plan
write k = make (WriteOwned k)

-- a space and the node
abbrev pub spaced : RecordNo → Plan
spaced k = make Ws then write k

abbrev pub ignored : RecordNo → Plan
ignored k = make (Ignore k)

-- ---- taking the next record

-- refusal 8, at the record met
abbrev pub not_met : Stream → Plan
not_met s = refuse (WrongKind (met s))

unfoldable pub on_found : Option RecordNo → (RecordNo → Plan) → Plan → Plan
on_found (Some k) f p = f k
on_found None f p = p

abbrev pub given : Took → (RecordNo → Plan) → Plan → Flow Stream
given t f p = flow (on_found t.found f p) t.rest

-- the next record, of any kind; none: refusal 8
unfoldable pub pump : (RecordNo → Plan) → Stream → Flow Stream
pump f s = given (take_any s) f (not_met s)

-- the next record, of this kind; another or none: refusal 8
unfoldable pub expect_byte : List Record → ℕ → (RecordNo → Plan) → Stream → Flow Stream
expect_byte rs kind f s = given (take_if (is_byte rs kind) s) f (not_met s)

-- the next record, if it is of this kind
unfoldable pub eat_byte : List Record → ℕ → (RecordNo → Plan) → Stream → Flow Stream
eat_byte rs kind f s = given (take_if (is_byte rs kind) s) f nothing

abbrev pub is : List Record → Kind → ℕ → Bool
is rs kind k = is_byte rs (byte_of kind) k

abbrev pub expect : List Record → Kind → (RecordNo → Plan) → Stream → Flow Stream
expect rs kind f = expect_byte rs (byte_of kind) f

abbrev pub eat : List Record → Kind → (RecordNo → Plan) → Stream → Flow Stream
eat rs kind f = eat_byte rs (byte_of kind) f

-- ---- by what is next

unfoldable pub if_next : {T : Type 0} → (ℕ → Bool) → (Stream → Flow T) → (Stream → Flow T) → Stream → Flow T
if_next want f g s = cond (next_is want s) (f s) (g s)

-- one kind or another
unfoldable pub either : (ℕ → Bool) → (ℕ → Bool) → ℕ → Bool
either f g k = f k || g k

-- ---- a node's rule

abbrev pub left_in : List ℕ → Plan
left_in [] = nothing
left_in (k ∷ ks) = refuse (WrongKind (no k))

-- refusal 8 where a record is left over
abbrev pub left_over : Stream → Plan
left_over s = left_in s.left

-- the rule over the node's records, with none left over
unfoldable pub parse : List Record → (Stream → Flow Stream) → RecordNo → Plan
parse rs rule k = let f = rule (records_of rs k) in f.plan then left_over f.rest

-- ---- the form of a step's contract

-- the calls of the step f at s are made, from e to e', and it hands on s'
pub record Goes {S T : Type 0} (x : Script) (f : S → Flow T) (s : S) (e e' : Engine) (s' : T) : Type 0 where
  pub ran : Makes x (f s).plan e e'
  pub at : s' ≡ (f s).rest

-- over what is lent: the step's calls are made, and the stream p stands behind it
abbrev pub Walked : Loan → Loan → FormatterLoan → MutLoan → MutLoan → StreamMutLoan → (Stream → Flow Stream) → Type 0
Walked src table fmt queue out p f = Goes (script src table) f (stream_in table p) (before fmt queue out) (after fmt queue out) (stream_out table p)

-- the number of the record found, and one past the table where there is none
abbrev pub number_of : Option RecordNo → RecordNo
number_of (Some k) = k
number_of None = no 8192

-- where nothing was found, that is refusal 8
abbrev pub asked : Option RecordNo → Stream → Plan
asked found s = on_found found (λ k. nothing) (not_met s)

-- the record k was found, or there is none and it is refused
pub record Asks (f : Option RecordNo) (s : Stream) (w w' : Formatter) (k : RecordNo) : Type 0 where
  pub ran : Refuses (asked f s) w w'
  pub found : k ≡ number_of f

-- a record is taken as t says; none is refusal 8
pub record Got (t : Took) (s : Stream) (w w' : Formatter) (k : RecordNo) (s' : Stream) : Type 0 where
  pub ran : Refuses (asked t.found s) w w'
  pub found : k ≡ number_of t.found
  pub rest : s' ≡ t.rest

abbrev pub Asked : Loan → FormatterLoan → StreamLoan → Option RecordNo → RecordNo → Type 0
Asked table fmt p found k = Asks found (stream_here table p) fmt.entry.now fmt.exit.now k

abbrev pub Pumped : Loan → FormatterLoan → StreamMutLoan → RecordNo → Type 0
Pumped table fmt p k = Got (take_any (stream_in table p)) (stream_in table p) fmt.entry.now fmt.exit.now k (stream_out table p)

abbrev pub Expected : Loan → FormatterLoan → StreamMutLoan → ℕ → RecordNo → Type 0
Expected table fmt p kind k = Got (take_if (is_byte (tree table) kind) (stream_in table p)) (stream_in table p) fmt.entry.now fmt.exit.now k (stream_out table p)
