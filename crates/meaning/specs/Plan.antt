-- Runs. A layout rule is a plan: the calls that it makes, in order, and "refuse" where it refuses. Assumes nothing.
use Rattle.std.specs.Prelude.{◌≡◌, ℕ, ◌-◌, List, [], ◌∷◌, ◌++◌, length, take, replicate, Ok, Err}
use Rattle.meaning.specs.declared.call.Call.{Call}
use Rattle.meaning.specs.declared.answer.Refusal.{Refusal}
use Rattle.meaning.specs.Answer.{Answer}
use Rattle.meaning.specs.State.{Script}
use Rattle.meaning.specs.Outcome.{Outcome, done, refused}
use Rattle.meaning.specs.Calls.{if_open, step}
use Rattle.meaning.specs.Lent.{lent}
use Rattle.meaning.specs.World.{World, world, capacity, Result, result, made}

pub data Plan : Type 0 where
  nothing : Plan
  make : Call → Plan
  refuse : Refusal → Plan
  ◌then◌ : Plan → Plan → Plan

infixr 30 ◌then◌
-- the calls of a plan, in order
abbrev pub calls_of : Plan → List Call
calls_of nothing = []
calls_of (make c) = c ∷ []
calls_of (refuse r) = []
calls_of (p then q) = calls_of p ++ calls_of q

-- a refusal is sticky: what comes behind it changes nothing
abbrev pub go_on : Answer → World → (World → Result) → Result
go_on (Ok tt) w next = next w
go_on (Err r) w next = result (Err r) w

-- the plan executed from a result on, call by call
unfoldable pub exec : Script → Plan → Result → Result
exec x nothing r = r
exec x (make c) r = go_on r.answer r.left (λ w. made w (step x (capacity w) w.state c))
exec x (refuse a) r = go_on r.answer r.left (λ w. result (Err a) w)
exec x (p then q) r = exec x q (exec x p r)

-- the one form of contract for calls and rules: the plan p, executed from r, gives r'
pub record Ran (x : Script) (p : Plan) (r r' : Result) : Type 0 where
  pub ran : r' ≡ exec x p r

-- ---- a run

-- zero from place n to the buffer's end
unfoldable pub zeroed : ℕ → List ℕ → List ℕ
zeroed n buf = take n buf ++ replicate (length buf - n) 0

-- a refused run from w: former state and length, former bytes below it, zero from there on
abbrev pub put_back : World → Result → Result
put_back w r = back r.answer
  where
    back : Answer → Result
    back (Ok tt) = r
    back (Err a) = result (Err a) (world w.state (zeroed w.state.len w.buffer))

abbrev pub answer_of : Outcome → Answer
answer_of (done s ps) = Ok tt
answer_of (refused r) = Err r

-- the checks on what is lent, then 10; 11, 9 and 8 are refusals of the plan
unfoldable pub ready : Answer → Script → World → Answer
ready opening x w = answer_of (lent opening x (capacity w) w.state (if_open w.state (done w.state [])))

unfoldable pub run : Answer → Script → World → Plan → Result
run opening x w p = put_back w (exec x p (result (ready opening x w) w))
