-- What a cursor finds over a good level. Assumes nothing.
use Rattle.std.specs.Prelude.{Some}
use mathlib.Core.Path.{◌≡◌, subst}
use mathlib.Core.Bool.{true, false}
use mathlib.Core.List.{List}
use Prim.Native.Nat.{ℕ, ◌<◌}
use native.Mathlib.Omega.{arith}
use lib.ListN.{length}
use Rattle.tree.specs.declared.record.RecordNo.{RecordNo}
use Rattle.tree.specs.declared.record.Record.{Record}
use Rattle.tree.specs.declared.cursor.Cursor.{Cursor}
use Rattle.tree.specs.Records.{end_of}
use Rattle.tree.specs.Table.{node_of}
use Rattle.tree.specs.Cursor.{passes, behind, cursor_of, first_of, peek_of}
use Rattle.tree.proofs.PeekLaws.{first_at, peeked}
use Rattle.opening.specs.Nodes.{LevelAt, StepAt}
use Rattle.opening.proofs.NodeLaws.{first_step, step_on}

pub first_good : {src : List ℕ} {rs : List Record} {d lo hi : ℕ} {c : Cursor} {k : RecordNo} → LevelAt src rs d lo hi c → first_of rs c ≡ Some k → StepAt src rs d lo hi c k.0
first_good {src} {rs} {d} {lo} {hi} {c} {k} v e =
    let f = first_at rs c e in
    subst (λ (k : ℕ). StepAt src rs d lo hi c k) f.place (first_step v (omega (arith, f)))

pub peek_good : {src : List ℕ} {rs : List Record} {d lo hi : ℕ} {c : Cursor} {k : RecordNo} → LevelAt src rs d lo hi c → peek_of rs c ≡ Some k → StepAt src rs d lo hi c k.0
peek_good {src} {rs} {d} {lo} {hi} {c} {k} v e = peeked rs c.end.0 Steps k found passed c.at.0 e lo v
  where
    Steps : ℕ → Type 0
    Steps at = (lo : ℕ) → LevelAt src rs d lo hi (cursor_of at c.end.0) → StepAt src rs d lo hi (cursor_of at c.end.0) k.0

    found : (at : ℕ) → at < c.end.0 → at < length rs → passes (node_of rs at) ≡ false → at ≡ k.0 → Steps at
    found at h l p q lo v = subst (λ (j : ℕ). StepAt src rs d lo hi (cursor_of at c.end.0) j) q (first_step v h)

    passed : (at : ℕ) → at < c.end.0 → at < length rs → passes (node_of rs at) ≡ true → Steps (behind rs at) → Steps at
    passed at h l p r lo v = let s = first_step v h in step_on s (r (end_of (node_of rs at)) s.rest)
