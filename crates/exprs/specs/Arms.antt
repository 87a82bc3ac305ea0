-- `select` and `match`: format.rs 1029 to 1135. Assumes nothing.
use Rattle.std.specs.Prelude.{ℕ, Bool, true, false}
use Rattle.tree.specs.declared.record.RecordNo.{RecordNo}
use Rattle.kinds.specs.declared.Kind.{Kind}
use Rattle.kinds.specs.Facts.{byte_of}
use Rattle.meaning.specs.declared.call.Hint.TheVariants.{Line}
use Rattle.meaning.specs.declared.call.Literal.TheVariants.{Braces}
use Rattle.meaning.specs.declared.call.Call.TheVariants.{Comments, Nl, Lit}
use Rattle.meaning.specs.Plan.{Plan, nothing, make, ◌then◌}
use Rattle.meaning.specs.State.{Script}
use Rattle.walk.specs.Stream.{Stream, no, is_byte, next_is}
use Rattle.walk.specs.Flow.{Flow, ◌▸◌, plain, call, write, pump, expect, if_next, is}
use Rattle.walk.specs.Loop.{loop}
use Rattle.steps.specs.Seen.{each, lastly}
use Rattle.gaps.specs.Arms.{is_block_arm, arm_comma, open_select, open_match, open_arm, close_arms, close_select}
use Rattle.parts.specs.Spaced.{expect_guard, word, between}
use Rattle.parts.specs.Args.{arm_pat, guard_kind}
use Rattle.exprs.specs.Rule.{Rule, Below}

module _ (x : Script) (lay : Below) where
  -- an arm by its rule, and the comma behind it, which is not written where the arm's body is a block
  unfoldable pub with_comma : (RecordNo → Plan) → Stream → Flow Stream
  with_comma rule s = (pump rule ▸ arm_comma x.tree (next_is (λ (k : ℕ). is_block_arm x.tree (no k)) s)) s

  -- what may stand in front of `=>`, behind a token of this byte
  unfoldable pub guard : ℕ → Stream → Flow Stream
  guard kind = if_next (is_byte x.tree kind) (between x.tree kind ▸ expect_guard x.tree kind (lay Rule.Expr)) (plain nothing)

  -- `=>` and the body
  unfoldable pub to : Stream → Flow Stream
  to = between x.tree (byte_of Kind.Rocket) ▸ pump (lay Rule.Expr)

  -- of a match or of a select
  unfoldable pub arm : Bool → Stream → Flow Stream
  arm inMatch = arm_pat x.tree inMatch ▸ guard (guard_kind inMatch) ▸ to

  -- ---- select: without a brace it gets both

  -- each arm on a line of its own
  unfoldable pub select_arm : RecordNo → Plan
  select_arm k = (make (Nl 1) then make (Comments Line)) then lay (Rule.Arm false) k

  unfoldable pub arms : Stream → Flow Stream
  arms = open_select ▸ loop (λ (s : Stream). s) (is x.tree Kind.ExprSelectArm) (with_comma select_arm) ▸ close_select x.tree

  unfoldable pub select : Stream → Flow Stream
  select = word x.tree (byte_of Kind.Select) ▸ if_next (is x.tree Kind.OpenBrace) arms (call (Lit Braces))

  -- ---- match

  unfoldable pub match_arm : Bool → RecordNo → Plan
  match_arm any k = open_arm any then lay (Rule.Arm true) k

  unfoldable pub cases : Stream → Flow Stream
  cases = each (is x.tree Kind.ExprMatchArm) (λ (any : Bool). with_comma (match_arm any)) ▸ lastly close_arms

  unfoldable pub matches : Stream → Flow Stream
  matches = word x.tree (byte_of Kind.Match) ▸ pump (lay Rule.Expr) ▸ open_match x.tree ▸ cases ▸ expect x.tree Kind.CloseBrace write
