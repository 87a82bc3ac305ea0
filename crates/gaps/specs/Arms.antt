-- The arms of `select` and `match`: format.rs 1029 to 1135. Assumes nothing.
use Rattle.std.specs.Prelude.{ℕ, Bool, true, false, not, cond, List, [], ◌∷◌, Option, Some, None}
use Rattle.tree.specs.declared.record.Record.{Record}
use Rattle.tree.specs.declared.record.RecordNo.{RecordNo}
use Rattle.kinds.specs.declared.Kind.{Kind}
use Rattle.meaning.specs.declared.call.Hint.TheVariants.{Line, Infix}
use Rattle.meaning.specs.declared.call.Call.TheVariants.{Comments, Indent, Nl, Ws}
use Rattle.meaning.specs.Plan.{Plan, nothing, make, ◌then◌}
use Rattle.steps.specs.declared.remaining.Mark.TheVariants.{Comma}
use Rattle.walk.specs.Stream.{Stream, records_of, no}
use Rattle.walk.specs.Flow.{Flow, flow, ◌▸◌, plain, call, write, pump, expect, is}
use Rattle.steps.specs.Remaining.{remaining, write_only_if}

-- ---- whether an arm's body is a block: the body is the arm's last record, and an expression's own node the last of its

abbrev pub last_from : Option RecordNo → List ℕ → Option RecordNo
last_from f [] = f
last_from f (k ∷ ks) = last_from (Some (no k)) ks

unfoldable pub last_of : List Record → RecordNo → Option RecordNo
last_of rs k = last_from None (records_of rs k).left

abbrev pub last_in : List Record → Option RecordNo → Option RecordNo
last_in rs None = None
last_in rs (Some k) = last_of rs k

abbrev pub is_found : List Record → Kind → Option RecordNo → Bool
is_found rs kind None = false
is_found rs kind (Some k) = is rs kind k.0

unfoldable pub is_block_arm : List Record → RecordNo → Bool
is_block_arm rs k = is_found rs Kind.Block (last_in rs (last_of rs k))

-- ---- around arms

-- the comma behind an arm is not written where its body is a block
unfoldable pub arm_comma : List Record → Bool → Stream → Flow Stream
arm_comma rs block s = let z = remaining rs Comma s in flow (z.plan then write_only_if (not block) z.token) z.rest

-- in front of the arms of a select: the brace, one level in
unfoldable pub open_select : Stream → Flow Stream
open_select = call (Indent 1) ▸ pump write

-- in front of those of a match
unfoldable pub open_match : List Record → Stream → Flow Stream
open_match rs = call Ws ▸ expect rs Kind.OpenBrace write

-- the first arm of a match indents
unfoldable pub open_arm : Bool → Plan
open_arm any = cond any nothing (make (Indent 1))

-- the end of a match stands on a line of its own, if there was an arm
unfoldable pub close_arms : Bool → Plan
close_arms any = cond any (make (Comments Line) then make (Nl 1) then make (Indent 255)) (make (Comments Infix))

-- the end of a select always does
unfoldable pub close_select : List Record → Stream → Flow Stream
close_select rs = plain (close_arms true) ▸ expect rs Kind.CloseBrace write
