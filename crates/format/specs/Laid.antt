-- What a run leaves, on a node and on a whole script. Assumes nothing.
use Rattle.std.specs.Prelude.{◌≡◌, ℕ, List}
use Rattle.tree.specs.declared.record.RecordNo.{RecordNo}
use Rattle.meaning.specs.Opening.{script_in}
use Rattle.meaning.specs.State.{Script}
use Rattle.meaning.specs.World.{Result}
use Rattle.meaning.specs.Plan.{Plan, exec}
use Rattle.lent.specs.Loans.{Loan, MutLoan, FormatterLoan, Engine, reads, before, after}
use Rattle.entry.specs.declared.state.State as code
use Rattle.entry.specs.Ended.{begun, run_left}
use Rattle.rules.specs.Rules.{layout}
use Rattle.rules.specs.Whole.{whole}
use Rattle.format.specs.declared.runs.Wanted.{Wanted}
use Rattle.format.specs.declared.runs.Wanted.TheVariants.{Node, All}

abbrev pub plan_of : Script → Wanted → Plan
plan_of x (Node k) = layout x k
plan_of x All = whole x

-- ---- in place

-- the plan runs on what the checks leave of the lent formatter, ring and buffer
pub record Ran (src tree : List ℕ) (w : Wanted) (e e' : Engine) : Type 0 where
  pub out : reads e' ≡ exec (script_in src tree) (plan_of (script_in src tree) w) (begun src e.fmt e.queue e.out)

abbrev pub RanOn : Loan → Loan → FormatterLoan → MutLoan → MutLoan → Wanted → Type 0
RanOn source tree fmt queue out w = Ran source.entry.now tree.entry.now w (before fmt queue out) (after fmt queue out)

-- ---- by value, from the lent state s and the buffer b

abbrev pub laid : List ℕ → List ℕ → code.State → List ℕ → Wanted → Result
laid src tree s b w = run_left src tree s b (plan_of (script_in src tree) w)

abbrev pub laid_out : List ℕ → List ℕ → code.State → List ℕ → RecordNo → Result
laid_out src tree s b k = laid src tree s b (Node k)

abbrev pub laid_whole : List ℕ → List ℕ → code.State → List ℕ → Result
laid_whole src tree s b = laid src tree s b All
