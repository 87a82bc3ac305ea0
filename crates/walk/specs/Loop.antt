-- The loops of the rules: turns, as long as the next record is wanted. Assumes nothing.
use Rattle.std.specs.Prelude.{ℕ, zero, suc, Bool, cond, length}
use Rattle.meaning.specs.Plan.{nothing}
use Rattle.walk.specs.Stream.{Stream, next_is}
use Rattle.walk.specs.Flow.{Flow, flow, ◌▸◌}

-- `at` is the stream within what the turns hand on
module _ {S : Type 0} (at : S → Stream) (want : ℕ → Bool) (turn : S → Flow S) where
  unfoldable pub turns : ℕ → S → Flow S
  turns zero s = flow nothing s
  turns (suc n) s = cond (next_is want (at s)) ((turn ▸ turns n) s) (flow nothing s)

  -- a turn takes a record, so that no more turns are made than records are left
  unfoldable pub loop : S → Flow S
  loop s = turns (length (at s).left) s
