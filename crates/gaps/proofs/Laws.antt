-- What the rules of expressions cite: which of these steps take a record, and which leave no more than there were. Assumes nothing.
use Rattle.steps.proofs.Rules.{List, ℕ, Bool, Record, Line, Comments, Nl, Ws, make, write, fmt, Remaining, Takes, Leaves, pump_takes, put_leaves}
use Rattle.steps.proofs.Rules.{plain_leaves, plain_takes, ◌leaves_then◌}
use Rattle.steps.specs.declared.remaining.Mark.TheVariants.{Comma, SemiColon}
use Rattle.steps.proofs.TakeLaws.{rest_leaves}
use Rattle.gaps.specs.Lines.{end_entry, key_line, next_key}
use Rattle.gaps.specs.Arms.{arm_comma}
use Rattle.gaps.specs.Statements.{semicolon}

pub entry_leaves : (rs : List Record) → Leaves (end_entry rs)
unfolding end_entry
entry_leaves rs = put_leaves rs Comma leaves_then plain_leaves (make (Nl 1))

pub key_takes : (want : ℕ → Bool) → Takes want key_line
unfolding key_line
key_takes want = plain_takes (make (Comments Line)) (pump_takes want write)

pub next_takes : (want : ℕ → Bool) (comma : Remaining) → Takes want (next_key comma)
unfolding next_key
next_takes want comma = plain_takes (fmt comma) (plain_takes (make Ws) (pump_takes want write))

pub comma_leaves : (rs : List Record) (block : Bool) → Leaves (arm_comma rs block)
unfolding arm_comma
comma_leaves rs block = record { most = rest_leaves rs Comma }

pub semi_leaves : (rs : List Record) (kind : ℕ) → Leaves (semicolon rs kind)
unfolding semicolon
semi_leaves rs kind = record { most = rest_leaves rs SemiColon }
