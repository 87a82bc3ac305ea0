-- Laws of items on lines of their own, and of a body by its kind. Assumes nothing.
use Rattle.steps.proofs.Rules.{◌≡◌, ap, Bool, List, ℕ, Record, RecordNo, Line, Comments, Nl, Indent, Script, Plan, make, ◌then◌, Engine}
use Rattle.steps.proofs.Rules.{Makes, Stream, pump, Goes, put_remaining, ◌▹◌, steady, pump_takes, plain_takes, put_leaves, ◌takes_then◌, Each}
use Rattle.lent.proofs.MadeLaws as made
use Rattle.steps.specs.declared.remaining.Mark.TheVariants.{Comma}
use Rattle.bodies.specs.Body.{lined, lines, line_end}

-- an item on a line of its own takes a record
pub lines_take : (rs : List Record) (want : ℕ → Bool) (rule : RecordNo → Plan) → Each want (lined rs rule)
unfolding lined
lines_take rs want rule = record { takes = λ any. plain_takes (make (Nl 1) then make (Comments Line)) (pump_takes want rule takes_then put_leaves rs Comma) }

pub one_line : {x : Script} (rs : List Record) (rule : RecordNo → Plan) (any : Bool) {s s' s'' : Stream} {e e' e'' e''' : Engine} → Makes x (make (Nl 1) then make (Comments Line)) e e' → Goes x (pump rule) s e' e'' s' → Goes x (put_remaining rs Comma) s' e'' e''' s'' → Goes x (lined rs rule any) s e e''' s''
unfolding lined
one_line rs rule any a b c = steady a ▹ b ▹ c

pub lines_end : {x : Script} (any : Bool) {n : ℕ} {e e' e'' e''' : Engine} → Makes x (make (Comments Line)) e e' → n ≡ lines any → Makes x (make (Nl n)) e' e'' → Makes x (make (Indent 255)) e'' e''' → Makes x (line_end any) e e'''
unfolding line_end
lines_end any a q b c = made.◌▹◌ a (made.◌▹◌ (made.made_as (ap (λ (n : ℕ). make (Nl n)) q) b) c)
