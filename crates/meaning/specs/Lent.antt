-- Source, tree, state and buffer are lent anew at each call and run, and checked before all else. Assumes nothing.
use Rattle.std.specs.Prelude.{ℕ, Bool, false, not, ◌||◌, List, [], ◌∷◌, length, ltb, Ok, Err}
use Rattle.text.specs.Chars.{in_source}
use Rattle.meaning.specs.declared.call.Call.{Call}
use Rattle.meaning.specs.declared.answer.Refusal.TheVariants.{NoRoom, QueueFull, IndentOut}
use Rattle.meaning.specs.Answer.{Answer}
use Rattle.meaning.specs.State.{Script, Comment, State}
use Rattle.meaning.specs.Outcome.{Outcome, refused, refuse_if}
use Rattle.meaning.specs.Calls.{step}
use Rattle.meaning.specs.CallRecord.{decode, asked}

-- a waiting span that is not start ≤ end ≤ source length on character boundaries
abbrev pub any_outside : List ℕ → List Comment → Bool
any_outside src [] = false
any_outside src (c ∷ cs) = not (in_source src c.span) || any_outside src cs

-- 4, 5, 6 on the state, where the buffer has cap bytes
unfoldable pub lent_state : Script → ℕ → State → Outcome → Outcome
lent_state x cap s o =
    refuse_if (ltb cap s.len) (NoRoom s.len)
    (refuse_if (ltb 256 (length s.queue) || any_outside x.source s.queue) (QueueFull (record { 0 = 8192 }))
    (refuse_if (ltb 64 s.indent) (IndentOut s.indent)
    o))

-- `opening` is what opening answers to this source and tree: 1, 2, 3, 7 come first
abbrev pub lent : Answer → Script → ℕ → State → Outcome → Outcome
lent (Ok tt) x cap s o = lent_state x cap s o
lent (Err r) x cap s o = refused r

-- a call, and a call record whose first byte has place p
unfoldable pub serve : Answer → Script → ℕ → State → Call → Outcome
serve opening x cap s c = lent opening x cap s (step x cap s c)

unfoldable pub serve_record : Answer → Script → ℕ → State → ℕ → List ℕ → Outcome
serve_record opening x cap s p bytes = lent opening x cap s (asked p (decode bytes) (step x cap s))
