-- What falls from call to call: the depth left in the tree counts most, then a rank, by which rules call each other at one depth.
use Rattle.std.proofs.Common.{◌+◌, ◌*◌}
use Rattle.exprs.specs.Arms.{match_arm, with_comma, select_arm}
use Rattle.exprs.specs.Lay.{lay}
use Rattle.steps.proofs.Rules.{byte_of, ℕ, Going, Kind, Stream, ◌▸◌, engine, is, length, pump, script_of, stream_at, tree_of, ◌≤◌, Listing, listed, remaining_of, suffix, turn, Bool, Seeing, true, Counting}
use Rattle.exprs.specs.Rule.{Rule}
use Rattle.parts.specs.Spaced.{between, is_expr}
use Rattle.exprs.proofs.StmtLaws.{Saying}
use Rattle.exprs.proofs.ChainLaws.{Linking}
use Rattle.exprs.specs.List.{loose_entry, keyed, pair}
use Rattle.steps.specs.declared.remaining.Mark.TheVariants.{Comma}
use Rattle.gaps.specs.Lines.{end_entry, key_line}
use Rattle.patterns.specs.Pattern.{silent}
use Rattle.exprs.proofs.Lay.+lay.Given as goal

abbrev pub decreases-arm : goal.decreases-arm
decreases-arm l = 5 * l.depth

abbrev pub decreases-binary : goal.decreases-binary
decreases-binary l = 5 * l.depth + 2

abbrev pub decreases-block : goal.decreases-block
decreases-block l = 5 * l.depth

abbrev pub decreases-body : goal.decreases-body
decreases-body l = 5 * l.depth

abbrev pub decreases-chain : goal.decreases-chain
decreases-chain l = 5 * l.depth + 2

abbrev pub decreases-cond : goal.decreases-cond
decreases-cond l = 5 * l.depth + 2

abbrev pub decreases-decl : goal.decreases-decl
decreases-decl l = 5 * l.depth

abbrev pub decreases-else_ : goal.decreases-else_
decreases-else_ l = 5 * l.depth

abbrev pub decreases-expr : goal.decreases-expr
decreases-expr l = 5 * l.depth

abbrev pub decreases-exprs : goal.decreases-exprs
decreases-exprs l = 5 * l.depth + 3

abbrev pub decreases-flow : goal.decreases-flow
decreases-flow l = 5 * l.depth + 4

abbrev pub decreases-group : goal.decreases-group
decreases-group l = 5 * l.depth + 2

abbrev pub decreases-guard : goal.decreases-guard
decreases-guard l = 5 * l.depth + 2

abbrev pub decreases-if_ : goal.decreases-if_
decreases-if_ l = 5 * l.depth + 3

abbrev pub decreases-inner : goal.decreases-inner
decreases-inner l = 5 * l.depth + 1

abbrev pub decreases-item : goal.decreases-item
decreases-item l = 5 * l.depth

abbrev pub decreases-lead : goal.decreases-lead
decreases-lead l = 5 * l.depth + 2

abbrev pub decreases-let_ : goal.decreases-let_
decreases-let_ l = 5 * l.depth

abbrev pub decreases-link : goal.decreases-link
decreases-link l = 5 * l.depth

abbrev pub decreases-loops : goal.decreases-loops
decreases-loops l = 5 * l.depth + 3

abbrev pub decreases-loose : goal.decreases-loose
decreases-loose l = 5 * l.depth + 2

abbrev pub decreases-match_ : goal.decreases-match_
decreases-match_ l = 5 * l.depth + 3

abbrev pub decreases-object : goal.decreases-object
decreases-object l = 5 * l.depth + 4

abbrev pub decreases-pair : goal.decreases-pair
decreases-pair l = 5 * l.depth + 2

abbrev pub decreases-range : goal.decreases-range
decreases-range l = 5 * l.depth + 2

abbrev pub decreases-rows : goal.decreases-rows
decreases-rows l = 5 * l.depth + 3

abbrev pub decreases-select : goal.decreases-select
decreases-select l = 5 * l.depth + 3

abbrev pub decreases-stmt : goal.decreases-stmt
decreases-stmt l = 5 * l.depth + 2

abbrev pub decreases-stmts : goal.decreases-stmts
decreases-stmts l = 5 * l.depth + 3

abbrev pub decreases-tail : goal.decreases-tail
decreases-tail l = 5 * l.depth + 2

abbrev pub decreases-tuple : goal.decreases-tuple
decreases-tuple l = 5 * l.depth + 2

abbrev pub invariant-binary-loop-fmt : goal.invariant-binary-loop-fmt
invariant-binary-loop-fmt l = let x = script_of l.src l.table in Going x (λ (s : Stream). s) (is x.tree Kind.ExprOperator) (between x.tree (byte_of Kind.ExprOperator) ▸ pump (lay x l.depth Rule.Inner)) (stream_at x.tree l.initial.p) (engine l.initial.fmt l.initial.queue l.initial.out) (stream_at x.tree l.p) (engine l.fmt l.queue l.out)

abbrev pub decreases-binary-loop-fmt : goal.decreases-binary-loop-fmt
decreases-binary-loop-fmt l = length (stream_at (tree_of l.table) l.p).left

abbrev pub invariant-chain-loop-p : goal.invariant-chain-loop-p
invariant-chain-loop-p l = let x = script_of l.src l.table in Linking x (lay x l.depth) l.from (stream_at x.tree l.initial.p) (engine l.initial.fmt l.initial.queue l.initial.out) (stream_at x.tree l.p) (engine l.fmt l.queue l.out) l.n × (l.n + length (stream_at x.tree l.p).left ≤ 8193)

abbrev pub decreases-chain-loop-p : goal.decreases-chain-loop-p
decreases-chain-loop-p l = length (stream_at (tree_of l.table) l.p).left

abbrev pub invariant-exprs-loop-fmt : goal.invariant-exprs-loop-fmt
invariant-exprs-loop-fmt l = let x = script_of l.src l.table in Listing x (is_expr x.tree) (turn x.tree (listed (lay x l.depth Rule.Expr)) suffix) (stream_at x.tree l.initial.p) (engine l.initial.fmt l.initial.queue l.initial.out) (stream_at x.tree l.p) (engine l.fmt l.queue l.out) (remaining_of Comma l.comma)

abbrev pub decreases-exprs-loop-fmt : goal.decreases-exprs-loop-fmt
decreases-exprs-loop-fmt l = length (stream_at (tree_of l.table) l.p).left

abbrev pub invariant-loose-loop-p : goal.invariant-loose-loop-p
invariant-loose-loop-p l = let x = script_of l.src l.table in Going x (λ (s : Stream). s) (is_expr x.tree) (pump (loose_entry x (lay x l.depth)) ▸ end_entry x.tree) (stream_at x.tree l.initial.p) (engine l.initial.fmt l.initial.queue l.initial.out) (stream_at x.tree l.p) (engine l.fmt l.queue l.out)

abbrev pub decreases-loose-loop-p : goal.decreases-loose-loop-p
decreases-loose-loop-p l = length (stream_at (tree_of l.table) l.p).left

abbrev pub invariant-match_-loop-p : goal.invariant-match_-loop-p
invariant-match_-loop-p l = let x = script_of l.src l.table in Seeing x (is x.tree Kind.ExprMatchArm) (λ (any : Bool). with_comma x (lay x l.depth) (match_arm x (lay x l.depth) any)) (stream_at x.tree l.initial.p) (engine l.initial.fmt l.initial.queue l.initial.out) (stream_at x.tree l.p) (engine l.fmt l.queue l.out) l.seen

abbrev pub decreases-match_-loop-p : goal.decreases-match_-loop-p
decreases-match_-loop-p l = length (stream_at (tree_of l.table) l.p).left

abbrev pub invariant-object-loop-fmt : goal.invariant-object-loop-fmt
invariant-object-loop-fmt l = let x = script_of l.src l.table in Listing x (is x.tree Kind.ObjectKey) (turn x.tree (keyed x (lay x l.depth)) silent) (stream_at x.tree l.initial.p) (engine l.initial.fmt l.initial.queue l.initial.out) (stream_at x.tree l.p) (engine l.fmt l.queue l.out) (remaining_of Comma l.comma)

abbrev pub decreases-object-loop-fmt : goal.decreases-object-loop-fmt
decreases-object-loop-fmt l = length (stream_at (tree_of l.table) l.p).left

abbrev pub invariant-rows-loop-fmt : goal.invariant-rows-loop-fmt
invariant-rows-loop-fmt l = let x = script_of l.src l.table in Going x (λ (s : Stream). s) (is x.tree Kind.ObjectKey) (key_line ▸ pair x (lay x l.depth) ▸ end_entry x.tree) (stream_at x.tree l.initial.p) (engine l.initial.fmt l.initial.queue l.initial.out) (stream_at x.tree l.p) (engine l.fmt l.queue l.out)

abbrev pub decreases-rows-loop-fmt : goal.decreases-rows-loop-fmt
decreases-rows-loop-fmt l = length (stream_at (tree_of l.table) l.p).left

abbrev pub invariant-select-loop-p : goal.invariant-select-loop-p
invariant-select-loop-p l = let x = script_of l.src l.table in Going x (λ (s : Stream). s) (is x.tree Kind.ExprSelectArm) (with_comma x (lay x l.depth) (select_arm x (lay x l.depth))) (stream_at x.tree l.initial.p) (engine l.initial.fmt l.initial.queue l.initial.out) (stream_at x.tree l.p) (engine l.fmt l.queue l.out)

abbrev pub decreases-select-loop-p : goal.decreases-select-loop-p
decreases-select-loop-p l = length (stream_at (tree_of l.table) l.p).left

abbrev pub invariant-stmts-loop-p : goal.invariant-stmts-loop-p
invariant-stmts-loop-p l = let x = script_of l.src l.table in Saying x (lay x l.depth) (stream_at x.tree l.initial.p) (engine l.initial.fmt l.initial.queue l.initial.out) (stream_at x.tree l.p) (engine l.fmt l.queue l.out) l.last

abbrev pub decreases-stmts-loop-p : goal.decreases-stmts-loop-p
decreases-stmts-loop-p l = length (stream_at (tree_of l.table) l.p).left

abbrev pub invariant-tail-loop-p : goal.invariant-tail-loop-p
invariant-tail-loop-p l = let x = script_of l.src l.table in Going x (λ (s : Stream). s) (λ (k : ℕ). true) (pump (lay x l.depth Rule.Else)) (stream_at x.tree l.initial.p) (engine l.initial.fmt l.initial.queue l.initial.out) (stream_at x.tree l.p) (engine l.fmt l.queue l.out)

abbrev pub decreases-tail-loop-p : goal.decreases-tail-loop-p
decreases-tail-loop-p l = length (stream_at (tree_of l.table) l.p).left

abbrev pub invariant-tuple-loop-fmt : goal.invariant-tuple-loop-fmt
invariant-tuple-loop-fmt l = let x = script_of l.src l.table in Counting x (is_expr x.tree) (turn x.tree (listed (lay x l.depth Rule.Expr)) suffix) (stream_at x.tree l.initial.p) (engine l.initial.fmt l.initial.queue l.initial.out) (stream_at x.tree l.p) (engine l.fmt l.queue l.out) (remaining_of Comma l.comma) l.count

abbrev pub decreases-tuple-loop-fmt : goal.decreases-tuple-loop-fmt
decreases-tuple-loop-fmt l = length (stream_at (tree_of l.table) l.p).left
