-- `tree::cursor::kept_from` meets its contract. The invariant: what is kept from here on is what is kept of all. Assumes nothing.
use mathlib.Core.Path.{◌∙◌, ap, sym}
use Prim.Native.Nat.{ℕ, min}
use Rattle.tree.specs.Table.{tree_of}
use Rattle.tree.proofs.CursorLaws.{behind_le, peek_finds, peek_min, peek_passes, peek_past, peek_starts}
use native.Mathlib.Omega.{arith}
use Rattle.tree.proofs.cursor.kept_from.Goals as goal

pub loop-at-init : goal.loop-at-init
loop-at-init c = (omega (arith, c.min-last.ensures, c.size.ensures), peek_starts)

pub loop-at-smaller : goal.loop-at-smaller
loop-at-smaller c = omega (arith, c.loop-at.invariant.0, c.behind-at.ensures, (behind_le (tree_of c.args.table.now) c.loop-at.at.0).1 (omega (arith, c.loop-at.invariant.0)))

pub loop-at-preserved : goal.loop-at-preserved
loop-at-preserved c = (c.loop-at.invariant.0, peek_passes c.loop-at.invariant.1 c.loop-at-test.true (omega (arith, c.loop-at.invariant.0)) (sym c.is_passed.ensures ∙ c.if-not-is_passed.false) c.behind-at.ensures)

pub returns-then-not-is_passed : goal.returns-then-not-is_passed
returns-then-not-is_passed c =
    peek_min (tree_of c.args.table.now) c.args.from.0 c.args.end.0 (c.min-last.ensures ∙ ap (λ (n : ℕ). min n c.args.end.0) c.size.ensures)
    (peek_finds c.loop-at.invariant.1 c.loop-at-test.true (omega (arith, c.loop-at.invariant.0)) (sym c.is_passed.ensures ∙ c.if-not-is_passed.true))

pub returns : goal.returns
returns c = peek_min (tree_of c.args.table.now) c.args.from.0 c.args.end.0 (c.min-last.ensures ∙ ap (λ (n : ℕ). min n c.args.end.0) c.size.ensures) (peek_past c.loop-at.invariant.1 c.loop-at-test.false)
