-- What the rules of expressions cite: an expression that must stand next, what stands in front of `=>`, and that an operator is taken. Assumes nothing.
use Rattle.lent.specs.declared.formatter.Formatter.{Formatter}
use Rattle.steps.proofs.Rules.{List, ℕ, Record, RecordNo, Ws, Script, Plan, make, Engine, engine, Makes, Stream, is_byte, take_if, write, Goes, got, Takes}
use Rattle.steps.proofs.Rules.{expect_takes, plain_leaves, plain_takes, ◌takes_then◌}
use Rattle.walk.specs.Flow.{Got}
use Rattle.parts.specs.Spaced.{is_expr, expect_expr, is_guard, expect_guard, between}

module _ {x : Script} (rs : List Record) (f : RecordNo → Plan) {s s' : Stream} {w w' : Formatter} {q b : List ℕ} {k : RecordNo} {e : Engine} where
  pub expr_met : Got (take_if (is_expr rs) s) s w w' k s' → Makes x (f k) (engine w' q b) e → Goes x (expect_expr rs f) s (engine w q b) e s'
  unfolding expect_expr
  expr_met g h = got (take_if (is_expr rs)) f g h

  pub guard_met : (kind : ℕ) → Got (take_if (is_guard rs kind) s) s w w' k s' → Makes x (f k) (engine w' q b) e → Goes x (expect_guard rs kind f) s (engine w q b) e s'
  unfolding expect_guard
  guard_met kind g h = got (take_if (is_guard rs kind)) f g h

pub between_takes : (rs : List Record) (kind : ℕ) → Takes (is_byte rs kind) (between rs kind)
unfolding between
between_takes rs kind = plain_takes (make Ws) (expect_takes rs kind write takes_then plain_leaves (make Ws))
