-- `calls::flush::flush` meets its contract. Assumes nothing.
use Rattle.text.proofs.Base.{◌∙◌, sym}
use Rattle.lent.specs.Run.{flushed_run}
use Rattle.calls.proofs.flush.flush.Goals.{else-preserve-via-then-preserve+else-not-breaking, else-preserve-via-else-preserve}
use Rattle.calls.proofs.flush.flush.Goals as goal

pub returns-then-not-breaking : goal.returns-then-not-breaking
unfolding flushed_run
returns-then-not-breaking c = rw (c.if-preserve.true, sym c.breaking.ensures ∙ c.if-not-breaking.true)

pub returns-else-preserve : goal.returns-else-preserve
unfolding flushed_run
returns-else-preserve c =
    c.clear.ensures
    ∙ elim c.else-preserve.branch [
      | else-preserve-via-then-preserve+else-not-breaking w ↦ rw (w.if-preserve.true, sym w.breaking.ensures ∙ w.if-not-breaking.false)
      | else-preserve-via-else-preserve w ↦ rw w.if-preserve.false
    ]
