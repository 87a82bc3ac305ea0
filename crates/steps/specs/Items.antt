-- Lists: items, each with the comma behind it. Assumes nothing.
use Rattle.std.specs.Prelude.{ℕ, Bool, cond, List}
use Rattle.tree.specs.declared.record.Record.{Record}
use Rattle.tree.specs.declared.record.RecordNo.{RecordNo}
use Rattle.meaning.specs.declared.call.Hint.TheVariants.{Prefix, Suffix, Infix}
use Rattle.meaning.specs.declared.call.Call.TheVariants.{Comments, Ws}
use Rattle.meaning.specs.Plan.{Plan, nothing, make, ◌then◌}
use Rattle.steps.specs.declared.remaining.Mark.TheVariants.{Comma}
use Rattle.steps.specs.declared.items.Few.{Few}
use Rattle.steps.specs.declared.items.Few.TheVariants.{Zero, One, Many}
use Rattle.walk.specs.Stream.{Stream}
use Rattle.walk.specs.Flow.{Flow, flow, ◌▸◌, plain, pump}
use Rattle.steps.specs.Remaining.{Remaining, Fresh, fmt, ignore, says, remaining}
use Rattle.walk.specs.Loop.{loop}

-- where a list stands: the records left, the comma behind the last item, how many items there were
pub record Place : Type 0 where
  pub rest : Stream
  pub comma : Remaining
  pub count : Few

abbrev pub place : Stream → Remaining → Few → Place
place s c n = record { rest = s; comma = c; count = n }

abbrev pub more : Few → Few
more Zero = One
more One = Many
more Many = Many

-- ---- one turn

-- an item, by the comma behind the one before it
unfoldable pub item : (Remaining → Stream → Flow Stream) → Place → Flow Place
item f s = let a = f s.comma s.rest in flow a.plan (place a.rest s.comma s.count)

-- the comma behind it
unfoldable pub rested : List Record → Place → Flow Place
rested rs s = let z = remaining rs Comma s.rest in flow z.plan (place z.rest z.token s.count)

-- what is done with that comma at once
unfoldable pub behind : (Remaining → Plan) → Place → Flow Place
behind g s = flow (g s.comma) (place s.rest s.comma (more s.count))

unfoldable pub turn : List Record → (Remaining → Stream → Flow Stream) → (Remaining → Plan) → Place → Flow Place
turn rs f g = item f ▸ rested rs ▸ behind g

-- ---- the items, as long as the next record is wanted

unfoldable pub begin : Stream → Flow Place
begin s = flow nothing (place s Fresh Zero)

unfoldable pub items : List Record → (ℕ → Bool) → (Remaining → Stream → Flow Stream) → (Remaining → Plan) → Stream → Flow Place
items rs want f g = begin ▸ loop (λ (s : Place). s.rest) want (turn rs f g)

-- ---- the list that most rules have

-- the comma of the item before, and a space behind it
unfoldable pub separated : Remaining → Plan
separated comma = fmt comma then cond (says comma) (make Ws) nothing

-- comments go before the comma; then the item
unfoldable pub listed : (RecordNo → Plan) → Remaining → Stream → Flow Stream
listed rule comma = plain (make (Comments Prefix) then separated comma) ▸ pump rule

abbrev pub suffix : Remaining → Plan
suffix comma = make (Comments Suffix)

-- the last comma is not written; comments of a list without items
unfoldable pub closing : Remaining → Plan
closing comma = ignore comma then cond (says comma) nothing (make (Comments Infix))

unfoldable pub closed : Place → Flow Stream
closed s = flow (closing s.comma) s.rest

unfoldable pub list : List Record → (ℕ → Bool) → (RecordNo → Plan) → Stream → Flow Stream
list rs want rule = items rs want (listed rule) suffix ▸ closed
